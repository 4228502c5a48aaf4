use Rattle.std.proofs.Common.{◌≡◌, ◌<◌, ◌∙◌, ℕ, get_or, length, min, subst, sym}
use Rattle.hierarchy.specs.private.Counts.{weight_below}
use Rattle.hierarchy.proofs.Weighed.{one_level}
use Rattle.hierarchy.proofs.counts.count_below.Goals as goal

pub loop-level-preserved : goal.loop-level-preserved
loop-level-preserved c = record {
  long = c.in_ok-counts-2.ensures.long;
  each = λ k h. c.in_ok-counts-2.ensures.each k h
      ∙ one_level c.args.graph.now c.args.own.now c.as_slice.result.now c.args.cap c.loop-level.level k
      (subst (λ counts. (j : ℕ) → j < length c.args.graph.now → get_or counts j 0 ≡ min c.args.cap (weight_below c.args.graph.now c.args.own.now c.loop-level.level j))
      (sym c.as_slice.ensures.value) c.loop-level.invariant.each)
      (λ i e low. c.requires.in_range k _ h i e low);
}
