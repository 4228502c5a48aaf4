use Rattle.std.proofs.Common.{◌≡◌, ◌<◌, ◌∙◌, ℕ, false, get_or, length, subst, sym}
use Rattle.hierarchy.specs.private.Depth.{has_steps}
use Rattle.hierarchy.proofs.Deep.{one_more}
use Rattle.hierarchy.proofs.depth.is_deep.Goals as goal

pub loop-round-preserved : goal.loop-round-preserved
loop-round-preserved c = record {
  long = c.in_ok-marks-2.ensures.long;
  each = λ k h. c.in_ok-marks-2.ensures.each k h
      ∙ one_more c.args.graph.now c.as_slice.result.now c.loop-round.round k
      (subst (λ marks. (j : ℕ) → j < length c.args.graph.now → get_or marks j false ≡ has_steps c.args.graph.now c.loop-round.round j)
      (sym c.as_slice.ensures.value) c.loop-round.invariant.each)
      (λ i e low. c.requires.in_range k _ h i e low);
}
