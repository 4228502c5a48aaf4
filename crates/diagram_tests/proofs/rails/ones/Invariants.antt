use Rattle.std.proofs.Common.{◌≡◌, length}
use Rattle.diagram_tests.proofs.rails.ones.Given as goal

-- a literal for each turn
abbrev pub invariant-loop : goal.invariant-loop
invariant-loop l = length l.row ≡ l.counter
