use Rattle.std.proofs.Common.{◌<◌, All}
use Rattle.sym_step_tests.proofs.tests.asked_in_turn.Given as goal

-- what is asked is of the first 999
abbrev pub invariant-loop-id : goal.invariant-loop-id
invariant-loop-id l = All (λ a. a.node.0 < 999) l.asked.items
