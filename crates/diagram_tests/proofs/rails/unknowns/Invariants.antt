use Rattle.std.proofs.Common.{◌≡◌, length, All}
use Rattle.dd_nodes.specs.Stores.{Store}
use Rattle.dual_rail.specs.Rail.{AreRefs}
use Rattle.diagram_tests.proofs.rails.unknowns.Given as goal

-- a set for each turn
abbrev pub invariant-loop-k : goal.invariant-loop-k
invariant-loop-k l = record {
  long : length l.sets.items ≡ l.k;
  refs : (s : Store) → All (AreRefs s) l.sets.items;
}
