use Rattle.std.proofs.Common.{◌≡◌}
use Rattle.dd_nodes.specs.Stores.{IsRef, function}
use Rattle.dd_query.proofs.Room.{room}
use Rattle.dd_query.proofs.evaluation.eval.Given as goal

-- the reference has at these bits the value that is asked for
abbrev pub invariant-loop-at : goal.invariant-loop-at
invariant-loop-at g l = record {
  store : g.N.Nodes.store l.nodes ≡ g.N.Nodes.store l.fn.nodes;
  ref : IsRef (g.N.Nodes.store l.fn.nodes) l.at;
  value : function (g.N.Nodes.store l.fn.nodes) l.at l.bits ≡ function (g.N.Nodes.store l.fn.nodes) l.fn.r l.bits;
}

abbrev pub decreases-loop-at : goal.decreases-loop-at
decreases-loop-at g l = room (g.N.Nodes.store l.fn.nodes) l.at
