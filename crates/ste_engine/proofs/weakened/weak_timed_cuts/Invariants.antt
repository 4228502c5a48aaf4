use Rattle.std.proofs.Common.{◌≡◌, ◌++◌, drop}
use Rattle.ste_engine.specs.private.Weakened.{weak_timed_cuts}
use Rattle.ste_engine.proofs.weakened.weak_timed_cuts.Given as goal

-- with the rest it is all
abbrev pub invariant-loop-k : goal.invariant-loop-k
invariant-loop-k l = l.timed_cuts.items ++ weak_timed_cuts l.depth l.k (drop l.k l.weak) ≡ weak_timed_cuts l.depth 0 l.weak
