use Rattle.std.proofs.Common.{◌≡◌, ◌-◌, ◌<◌, ◌≤◌, length, get_or}
use Rattle.std.specs.List.{AllZip}
use Rattle.dd_nodes.specs.Stores.{Keeps}
use Rattle.ste_model.specs.declared.task.Edge.{Edge}
use Rattle.ste_model.specs.GraphWork.{SymbolicState}
use Rattle.gste_engine.specs.Tables.{AreStateRefs, IsState}
use Rattle.gste_engine.proofs.Arrivals.{SummedSoFar}
use Rattle.gste_engine.proofs.sums.sum_of.Given as goal

-- the edges in front of this one have come to the vertex, to which this one leads too
abbrev pub invariant-loop-k : goal.invariant-loop-k
invariant-loop-k g l = record {
  keeps : Keeps (g.N.Nodes.store l.fn.nodes) (g.N.Nodes.store l.nodes);
  most : l.k ≤ length l.graph.edges;
  here : (d : Edge) → l.k < length l.graph.edges → (get_or l.graph.edges l.k d).to ≡ l.vertex;
  refs : AreStateRefs (g.N.Nodes.store l.nodes) l.net.raw l.sum;
  so : (given : Edge → SymbolicState) → AllZip (λ edge r. IsState (g.N.Nodes.store l.fn.nodes) (given edge) r) l.graph.edges l.givens → SummedSoFar l.net.raw l.graph given (g.N.Nodes.store l.fn.nodes) (g.N.Nodes.store l.nodes) l.vertex l.k l.sum;
}

-- fewer and fewer edges are ahead
abbrev pub decreases-loop-k : goal.decreases-loop-k
decreases-loop-k g l = length l.givens - l.k
