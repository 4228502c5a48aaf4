use Rattle.std.proofs.Common.{List, All, map, sym, ◌∙◌, ap, length, subst, Option}
use Rattle.std.specs.Prelude.{IfSome}
use Rattle.std.proofs.lemmas.List.{length-map}
use Rattle.dual_rail.specs.declared.rails.Rails.{Rails}
use Rattle.dual_rail.specs.Rail.{AreRefs}
use Rattle.net_core.specs.Sets.{first_set}
use Rattle.ste_model.specs.Work.{constant_set}
use Rattle.sym_step.specs.declared.frame.Frame.{Frame}
use Rattle.sym_step.specs.Frame.{IsFrame}
use Rattle.engine_parts.specs.Latches.{first_rails}
use Rattle.engine_parts.proofs.FirstSets.{firsts_are, zip_refs}
use Rattle.ste_engine.proofs.turn.frame_from.Goals as goal

pub returns-in_ok-first-in-Some-clause-frame : goal.returns-in_ok-first-in-Some-clause-frame
returns-in_ok-first-in-Some-clause-frame c = λ s d last.
    let net = c.args.net.now.raw in
    let sets : List Rails = map (first_rails c.args.reset) net.latches in
    let is = c.in_ok-first-in-Some.ensures in
    c.before_first_time.ensures.frame s net (subst (λ (o : Option Frame). IfSome o (IsFrame s net)) c.in-Some.is last)
    (ap (λ (xs : List Rails). length xs) is ∙ length-map net.latches (first_rails c.args.reset))
    (subst (λ (xs : List Rails). All (AreRefs s) xs) (sym is) (zip_refs s (map (λ latch. constant_set (first_set c.args.reset latch)) net.latches) sets (firsts_are s c.args.reset net.latches d)))

pub returns-in_ok-first-in-Some-clause-next : goal.returns-in_ok-first-in-Some-clause-next
returns-in_ok-first-in-Some-clause-next c = c.before_first_time.ensures.next c.args.net.now.raw ∙ c.in_ok-first-in-Some.ensures
