use Rattle.std.proofs.Common.{◌≤◌}
use Rattle.dd_nodes.specs.Diagram.{IsFrom}
use Rattle.dd_nodes.specs.Stores.{Keeps}
use Rattle.diagram_tests.proofs.tables.parity.Given as goal

-- the parities of the variables from here on
abbrev pub invariant-loop-var : goal.invariant-loop-var
invariant-loop-var g l = record {
  low : l.var ≤ (g.N.Nodes.store l.fn.nodes).vars;
  keeps : Keeps (g.N.Nodes.store l.fn.nodes) (g.N.Nodes.store l.nodes);
  odd : IsFrom (g.N.Nodes.store l.nodes).held l.var l.odd;
  even : IsFrom (g.N.Nodes.store l.nodes).held l.var l.even;
}

abbrev pub decreases-loop-var : goal.decreases-loop-var
decreases-loop-var g l = l.var
