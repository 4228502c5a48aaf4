use Rattle.std.proofs.Common.{◌≡◌, ◌<◌, ℕ, get_or, length, min}
use Rattle.hierarchy.specs.private.Counts.{weight_below}
use Rattle.hierarchy.proofs.counts.count_below.Given as goal

abbrev pub invariant-loop-level : goal.invariant-loop-level
invariant-loop-level l = record {
  long : length l.counts.items ≡ length l.graph;
  each : (k : ℕ) → k < length l.graph → get_or l.counts.items k 0 ≡ min l.cap (weight_below l.graph l.own l.level k);
}
