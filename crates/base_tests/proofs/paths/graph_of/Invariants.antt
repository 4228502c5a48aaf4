use Rattle.std.proofs.Common.{◌≤◌, ◌<◌, length}
use Rattle.std.specs.Prelude.{All}
use Rattle.base_tests.proofs.paths.graph_of.Given as goal

abbrev pub invariant-loop : goal.invariant-loop
invariant-loop l = record {
  ends : All (λ hop. hop.to < 3) l.hops.items;
  few : length l.hops.items ≤ l.counter;
}
