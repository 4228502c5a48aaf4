use Rattle.std.proofs.Common.{◌≢◌, ◌<◌, ℕ, List, Some, All, ap, arith, subst, sym, ◌∙◌}
use Rattle.ste_base.specs.declared.id.NodeId.{NodeId}
use Rattle.sym_step.specs.declared.frame.Frame.{Frame}
use Rattle.sym_step.specs.private.Demands.{nodes_of}
use Rattle.sym_step.specs.private.Readers.{AreMarked, driver_number}
use Rattle.sym_step.proofs.Framing.{all_spared, with_due}
use Rattle.sym_step.proofs.Latched.{all_carried}
use Rattle.sym_step.proofs.frame.make_due.Goals as goal

pub mark_drivers-requires : goal.mark_drivers-requires
mark_drivers-requires c = subst (All (λ (node : NodeId). node.0 < c.args.net.now.raw.nets)) (sym (c.as_slice-before.ensures.value ∙ ap (λ v. v.items) c.in_ok-with_lists.ensures.asked)) c.requires.before

pub returns-clause-frame : goal.returns-clause-frame
returns-clause-frame c = λ s f.
    let net = c.args.net.now in
    let asked : List NodeId = nodes_of c.args.demands.now.weak c.args.demands.now.cuts in
    let p = c.in_ok-with_lists.ensures.frame s f in
    let frame : Frame = c.with_lists.new.frame in
    let mid = c.mark_drivers.new.due in
    let due = c.mark_drivers-2.new.due in
    let m = c.mark_drivers.ensures in
    let q = c.mark_drivers-2.ensures in
    let now = subst (λ (ids : List NodeId). AreMarked (λ k. All (λ node. driver_number net.raw node.0 ≢ Some k) ids) mid.flags.items due.flags.items) c.nodes.ensures.nodes q.marked in
    let before = subst (λ (ids : List NodeId). AreMarked (λ k. All (λ node. driver_number net.raw node.0 ≢ Some k) ids) frame.board.due.flags.items mid.flags.items) c.as_slice-before.ensures.value m.marked in (
      with_due s net.raw frame due (q.long ∙ m.long) (q.order ∙ m.order) (λ k lt none. (m.marked k lt (q.marked k (omega (arith, m.long, lt)) none).0).0) p.0,
      all_spared s net.raw frame asked mid due net.one_driver p.0 p.1 m.long before now,
      all_carried s net.raw frame asked mid due net.one_driver p.0 p.1 m.long before now,
    )

pub mark_drivers-requires-2 : goal.mark_drivers-requires-2
mark_drivers-requires-2 c = subst (λ (n : ℕ). All (λ (node : NodeId). node.0 < n) c.nodes.result.now) c.requires.over c.nodes.ensures.inside
