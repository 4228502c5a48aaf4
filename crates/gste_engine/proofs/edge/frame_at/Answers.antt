use Rattle.std.proofs.Common.{◌≡◌, List, All, length, sym, ◌∙◌, ap, subst}
use Rattle.dual_rail.specs.declared.rails.Rails.{Rails}
use Rattle.dual_rail.specs.Rail.{AreRefs}
use Rattle.gste_engine.proofs.edge.frame_at.Goals as goal

pub returns-clause-frame : goal.returns-clause-frame
returns-clause-frame c = λ s net frame refs.
    let latches : List Rails = c.args.source.now.latches in
    let is : c.from.result ≡ latches = c.from.ensures ∙ c.in_ok-latches.ensures.items_if_clones_equal (λ x y e. e) ∙ c.as_slice.ensures in
    c.before_first_time.ensures.frame s net frame (ap (λ (xs : List Rails). length xs) is ∙ refs.long) (subst (λ (xs : List Rails). All (AreRefs s) xs) (sym is) refs.latches)

pub returns-clause-next : goal.returns-clause-next
returns-clause-next c = λ net.
    c.before_first_time.ensures.next net ∙ c.from.ensures ∙ c.in_ok-latches.ensures.items_if_clones_equal (λ x y e. e) ∙ c.as_slice.ensures
