use Rattle.std.proofs.Common.{◌≡◌, length}
use Rattle.hierarchy.proofs.components.components.Given as goal

abbrev pub invariant-loop-root : goal.invariant-loop-root
invariant-loop-root l = length l.search.ranks.items ≡ length l.graph
