use Rattle.std.proofs.Common.{◌≡◌}
use Rattle.store_tests.proofs.growing_store.make_all.Given as goal

abbrev pub invariant-loop-v : goal.invariant-loop-v
invariant-loop-v g l = (g.N.Nodes.store l.nodes).vars ≡ l.vars
