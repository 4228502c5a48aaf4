use Rattle.std.proofs.Common.{◌≡◌, ◌+◌, ◌-◌, ◌<◌, ℕ, drop, length, get_or}
use Rattle.dd_nodes.specs.Stores.{Keeps}
use Rattle.net_core.specs.Work.{SymbolicSet}
use Rattle.ste_model.specs.declared.task.Edge.{Edge}
use Rattle.ste_model.specs.GraphWork.{SymbolicState}
use Rattle.dual_rail.proofs.Works.{SoFar}
use Rattle.gste_engine.specs.Tables.{HasStates}
use Rattle.gste_engine.specs.private.Rounds.{AreEdgeResults, edges_work}
use Rattle.gste_engine.proofs.AllGiven.{ArePossibleOn}
use Rattle.gste_engine.proofs.rounds.evaluate_from.Given as goal

-- the edges in front of this one are known, and this one begins at the vertex
abbrev pub invariant-loop-k : goal.invariant-loop-k
invariant-loop-k g l = record {
  keeps : Keeps (g.N.Nodes.store l.fn.nodes) (g.N.Nodes.store l.nodes);
  here : (d : Edge) → l.k < length l.graph.edges → (get_or l.graph.edges l.k d).from ≡ get_or l.changed l.i 0;
  edge_results : AreEdgeResults (g.N.Nodes.store l.nodes) l.net.raw l.graph l.table (drop (l.i + 1) l.changed) (get_or l.changed l.i 0) l.k l.edge_results;
  so : (states : ℕ → SymbolicState) (sets : Edge → ℕ → SymbolicSet) → HasStates states (length l.table) (g.N.Nodes.store l.fn.nodes) l.table → ArePossibleOn (g.N.Nodes.store l.fn.nodes).vars l.net.raw states sets l.graph.edges → SoFar (edges_work l.net.raw states sets l.graph.edges) (g.N.Nodes.store l.fn.nodes) (g.N.Nodes.store l.nodes);
}

-- fewer and fewer edges are ahead
abbrev pub decreases-loop-k : goal.decreases-loop-k
decreases-loop-k g l = length l.graph.edges - l.k
