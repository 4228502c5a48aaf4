use Rattle.std.proofs.Common.{◌≡◌}
use Rattle.store_tests.proofs.shared_table.make_all.Given as goal

abbrev pub invariant-loop-v : goal.invariant-loop-v
invariant-loop-v g l = record {
  vars : (g.N.Nodes.store l.job.nodes).vars ≡ l.vars;
  table : (g.N.Nodes.store l.job.nodes).table ≡ (g.N.Nodes.store l.initial.job.nodes).table;
}
