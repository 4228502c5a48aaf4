use Rattle.std.proofs.Common.{◌≡◌, length, All}
use Rattle.dd_nodes.specs.Stores.{Store}
use Rattle.dual_rail.specs.Rail.{AreRefs}
use Rattle.diagram_tests.proofs.rails.sets.Given as goal

-- a set for each turn
abbrev pub invariant-loop : goal.invariant-loop
invariant-loop l = record {
  long : length l.sets.items ≡ l.counter;
  refs : (s : Store) → All (AreRefs s) l.sets.items;
}
