use Rattle.std.proofs.Common.{◌≡◌}
use Rattle.sym_step_tests.proofs.tests.sets_under.Given as goal

abbrev pub invariant-loop-r : goal.invariant-loop-r
invariant-loop-r g l = g.N.Nodes.store l.nodes ≡ g.N.Nodes.store l.fn.nodes
