use Rattle.std.proofs.Common.{ℕ, drop, length}
use Rattle.dd_nodes.specs.Stores.{Keeps}
use Rattle.net_core.specs.Work.{SymbolicSet}
use Rattle.ste_model.specs.declared.task.Edge.{Edge}
use Rattle.ste_model.specs.GraphWork.{SymbolicState}
use Rattle.dual_rail.proofs.Works.{SoFar}
use Rattle.gste_engine.specs.Tables.{HasStates}
use Rattle.gste_engine.specs.private.Rounds.{AreEdgeResults, edges_work}
use Rattle.gste_engine.proofs.AllGiven.{ArePossibleOn}
use Rattle.gste_engine.proofs.rounds.evaluate_changed.Given as goal

-- the edges from the first changed vertices are known too
abbrev pub invariant-loop-i : goal.invariant-loop-i
invariant-loop-i g l = record {
  keeps : Keeps (g.N.Nodes.store l.fn.nodes) (g.N.Nodes.store l.nodes);
  edge_results : AreEdgeResults (g.N.Nodes.store l.nodes) l.net.raw l.graph l.table (drop l.i l.changed) 0 (length l.graph.edges) l.edge_results;
  so : (states : ℕ → SymbolicState) (sets : Edge → ℕ → SymbolicSet) → HasStates states (length l.table) (g.N.Nodes.store l.fn.nodes) l.table → ArePossibleOn (g.N.Nodes.store l.fn.nodes).vars l.net.raw states sets l.graph.edges → SoFar (edges_work l.net.raw states sets l.graph.edges) (g.N.Nodes.store l.fn.nodes) (g.N.Nodes.store l.nodes);
}
