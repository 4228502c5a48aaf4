use Rattle.std.proofs.Common.{◌≡◌, ◌+◌, ◌≤◌, length}
use Rattle.graph_path.specs.private.Distances.{AreDistancesBelow, count_unknown}
use Rattle.graph_path.proofs.distances.distances.Given as goal

abbrev pub invariant-loop-level : goal.invariant-loop-level
invariant-loop-level l = record {
  long : length l.far.items ≡ l.vertices;
  below : AreDistancesBelow l.hops l.far.items l.level;
  count : l.level + count_unknown l.far.items ≤ l.vertices;
}

-- fewer and fewer vertices have no distance
abbrev pub decreases-loop-level : goal.decreases-loop-level
decreases-loop-level l = count_unknown l.far.items
