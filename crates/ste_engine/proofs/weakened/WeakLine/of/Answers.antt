use Rattle.std.proofs.Common.{◌≤◌, ◌∙◌, List, All, subst, sym}
use Rattle.ste_engine.specs.declared.timed_cuts.TimedCut.{TimedCut}
use Rattle.ste_engine.specs.private.Times.{IsTimeline}
use Rattle.ste_engine.proofs.WeakLines.{weak_within}
use Rattle.ste_engine.proofs.weakened.WeakLine.of.Goals as goal

pub of-requires : goal.of-requires
of-requires c =
    subst (λ (xs : List TimedCut). All (λ timed_cut. timed_cut.to ≤ c.args.depth) xs) (sym (c.as_slice.ensures.value ∙ c.in_ok-timed_cuts.ensures))
    (weak_within c.args.depth 0 c.args.weak.now)

pub returns : goal.returns
returns c = subst (λ (xs : List TimedCut). IsTimeline xs c.args.depth 0 c.in_ok-line.line) (c.as_slice.ensures.value ∙ c.in_ok-timed_cuts.ensures) c.in_ok-line.ensures
