use Rattle.std.proofs.Common.{◌≡◌, length}
use Rattle.plain_check_tests.proofs.tests.names_of.Given as goal

-- so many names
abbrev pub invariant-loop : goal.invariant-loop
invariant-loop l = length l.names ≡ l.counter
