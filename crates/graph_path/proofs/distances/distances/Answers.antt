use Rattle.std.proofs.Common.{◌∙◌, ℕ, List, refl, sym, ap, subst, arith}
use Rattle.std.specs.Prelude.{Option, slice_get}
use Rattle.graph_path.specs.Routes.{LeadToVertices}
use Rattle.graph_path.specs.private.Distances.{AreDistancesBelow}
use Rattle.graph_path.proofs.Levels.{unknown_below, ends_known}
use Rattle.graph_path.proofs.distances.distances.Goals as goal

pub loop-level-init : goal.loop-level-init
loop-level-init c =
    let u = unknown_below c.args.hops.now c.in_ok-far.far.items c.in_ok-far.ensures.none in
    record { long = c.in_ok-far.ensures.long; below = u.0; count = let h = c.in_ok-far.ensures.long in let n = u.1 in omega (arith, h, n) }

pub mark_level-requires-clause-ends : goal.mark_level-requires-clause-ends
mark_level-requires-clause-ends c = subst (λ (n : ℕ). LeadToVertices n c.args.hops.now) (sym c.loop-level.invariant.long) c.requires.ends

pub mark_level-requires-clause-below : goal.mark_level-requires-clause-below
mark_level-requires-clause-below c = c.loop-level.invariant.below

pub overflow_add-level : goal.overflow_add-level
overflow_add-level c = let f = c.loop-level-test.ensures.fewer refl in let i = c.loop-level.invariant.count in let r = c.ranges.vertices in omega (arith, f, i, r)

pub loop-level-smaller : goal.loop-level-smaller
loop-level-smaller c = c.loop-level-test.ensures.fewer refl

pub loop-level-preserved : goal.loop-level-preserved
loop-level-preserved c =
    let e = c.loop-level-test.ensures in
    let f = e.fewer refl in
    let i = c.loop-level.invariant.count in
    record { long = e.long ∙ c.loop-level.invariant.long; below = e.below; count = omega (arith, f, i) }

pub returns-clause-long : goal.returns-clause-long
returns-clause-long c = c.loop-level-test.ensures.long ∙ c.loop-level.invariant.long

pub returns-clause-distances : goal.returns-clause-distances
returns-clause-distances c =
    let e = c.loop-level-test.ensures in
    let same = e.same refl in
    ends_known c.args.hops.now c.mark_level.new.far.items c.loop-level.level
    (subst (λ (n : ℕ). LeadToVertices n c.args.hops.now) (sym (e.long ∙ c.loop-level.invariant.long)) c.requires.ends)
    (subst (λ (f : List (Option ℕ)). AreDistancesBelow c.args.hops.now f c.loop-level.level) (sym same) c.loop-level.invariant.below) e.below

pub returns-clause-near : goal.returns-clause-near
returns-clause-near c = λ v k at.
    let same = c.loop-level-test.ensures.same refl in
    let l = (c.loop-level.invariant.below.some v k (ap (λ (f : List (Option ℕ)). slice_get f v) (sym same) ∙ at)).0 in
    let i = c.loop-level.invariant.count in
    omega (arith, l, i)
