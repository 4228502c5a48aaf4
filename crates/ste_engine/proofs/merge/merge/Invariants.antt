use Rattle.std.proofs.Common.{◌≡◌, ◌≤◌, ◌++◌, ◌+◌, ◌-◌, drop, length}
use Rattle.ste_engine.specs.private.TimedCuts.{merge as merge_of}
use Rattle.ste_engine.proofs.merge.merge.Given as goal

-- what is left decides
abbrev pub invariant-loop-i : goal.invariant-loop-i
invariant-loop-i l = record {
  first : l.i ≤ length l.xs;
  second : l.j ≤ length l.ys;
  is : l.timed_cuts.items ++ merge_of (drop l.i l.xs) (drop l.j l.ys) ≡ merge_of l.xs l.ys;
}

abbrev pub decreases-loop-i : goal.decreases-loop-i
decreases-loop-i l = (length l.xs - l.i) + (length l.ys - l.j)
