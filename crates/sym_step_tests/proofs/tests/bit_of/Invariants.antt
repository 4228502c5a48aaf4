use Rattle.std.proofs.Common.{◌≡◌}
use Rattle.dd_nodes.specs.Stores.{IsRef}
use Rattle.sym_step_tests.proofs.tests.bit_of.Given as goal

abbrev pub invariant-loop : goal.invariant-loop
invariant-loop g l = record {
  same : g.N.Nodes.store l.nodes ≡ g.N.Nodes.store l.fn.nodes;
  ref : IsRef (g.N.Nodes.store l.nodes) l.at;
}
