use Rattle.std.proofs.Common.{◌≡◌, ◌<◌, ℕ, false, get_or, length}
use Rattle.hierarchy.specs.private.Depth.{has_steps}
use Rattle.hierarchy.proofs.depth.is_deep.Given as goal

abbrev pub invariant-loop-round : goal.invariant-loop-round
invariant-loop-round l = record {
  long : length l.marks.items ≡ length l.graph;
  each : (k : ℕ) → k < length l.graph → get_or l.marks.items k false ≡ has_steps l.graph l.round k;
}
