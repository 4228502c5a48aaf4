use Rattle.std.proofs.Common.{◌<◌, All, length, subst, sym, arith}
use Rattle.std.proofs.lemmas.List.Elements.{All-push}
use Rattle.dual_rail.specs.Rail.{AreRefs}
use Rattle.sym_step.specs.Frame.{nets_of}
use Rattle.sym_step.proofs.Framing.{rails_refs}
use Rattle.sym_step_tests.proofs.tests.frame_rails.Goals as goal

pub loop-id-preserved : goal.loop-id-preserved
loop-id-preserved c = λ s f.
    let frame = c.args.frame.now in
    let count = c.nets-id-end.ensures in
    let size = c.requires in
    let inside : c.loop-id.id < length (nets_of frame) = omega (arith, c.loop-id-test.true, count, size) in
    let one : AreRefs s c.rails.result = subst (AreRefs s) (sym c.rails.ensures) (rails_refs s frame.board.nets.items f.refs c.loop-id.id _ inside) in
    subst (All (AreRefs s)) (sym c.in_ok-push.ensures.items) (All-push (AreRefs s) c.loop-id.rails.items c.rails.result (c.loop-id.invariant s f) one)
