use Rattle.std.proofs.Common.{◌<◌, All}
use Rattle.sym_step_tests.proofs.tests.asked_of.Given as goal

abbrev pub invariant-loop-name : goal.invariant-loop-name
invariant-loop-name l = All (λ a. a.node.0 < l.nets) l.found.items
