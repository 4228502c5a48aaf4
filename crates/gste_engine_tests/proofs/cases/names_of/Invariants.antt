use Rattle.std.proofs.Common.{◌≡◌, length}
use Rattle.gste_engine_tests.proofs.cases.names_of.Given as goal

-- so many names
abbrev pub invariant-loop : goal.invariant-loop
invariant-loop l = length l.names ≡ l.counter
