use Rattle.std.proofs.Common.{◌≤◌, ◌<◌, length}
use Rattle.std.specs.Prelude.{All}
use Rattle.base_tests.proofs.paths.chain.Given as goal

abbrev pub invariant-loop-number : goal.invariant-loop-number
invariant-loop-number l = record {
  ends : All (λ hop. hop.to < 1000) l.hops.items;
  few : length l.hops.items ≤ l.number;
}
