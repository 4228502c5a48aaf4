use Rattle.std.proofs.Common.{◌≤◌, ◌∙◌, List, All, subst, sym}
use Rattle.ste_engine.specs.declared.timed_cuts.TimedCut.{TimedCut}
use Rattle.ste_engine.proofs.FixedTasks.{fixed_within}
use Rattle.ste_engine.proofs.place.fixed_line.Goals as goal

pub of-requires : goal.of-requires
of-requires c =
    subst (λ (xs : List TimedCut). All (λ timed_cut. timed_cut.to ≤ c.args.depth) xs) (sym (c.as_slice.ensures.value ∙ c.in_ok-timed_cuts.ensures))
    (fixed_within c.args.bits.now c.args.depth 0 c.args.quints.now c.requires)
