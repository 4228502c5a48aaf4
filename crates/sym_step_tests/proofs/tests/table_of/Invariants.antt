use Rattle.std.proofs.Common.{◌≡◌}
use Rattle.sym_step_tests.proofs.tests.table_of.Given as goal

abbrev pub invariant-loop-p : goal.invariant-loop-p
invariant-loop-p g l = g.N.Nodes.store l.nodes ≡ g.N.Nodes.store l.fn.nodes
