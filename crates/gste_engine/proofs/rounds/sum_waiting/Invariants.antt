use Rattle.std.proofs.Common.{drop}
use Rattle.std.specs.List.{AllZip}
use Rattle.dd_nodes.specs.Stores.{Keeps}
use Rattle.ste_model.specs.declared.task.Edge.{Edge}
use Rattle.ste_model.specs.GraphWork.{SymbolicState}
use Rattle.dual_rail.proofs.Works.{SoFar}
use Rattle.gste_engine.specs.Tables.{IsState}
use Rattle.gste_engine.specs.private.Rounds.{IsSwept}
use Rattle.gste_engine.specs.private.Sums.{arrivals_work}
use Rattle.gste_engine.proofs.rounds.sum_waiting.Given as goal

-- the first vertices that waited are summed
abbrev pub invariant-loop-i : goal.invariant-loop-i
invariant-loop-i g l = record {
  keeps : Keeps (g.N.Nodes.store l.fn.nodes) (g.N.Nodes.store l.nodes);
  swept : IsSwept (g.N.Nodes.store l.nodes) l.net.raw l.graph l.givens l.fn.start.table.items (drop l.i l.list) l.sweep;
  so : (given : Edge → SymbolicState) → AllZip (λ edge r. IsState (g.N.Nodes.store l.fn.nodes) (given edge) r) l.graph.edges l.givens → SoFar (arrivals_work l.net.raw l.graph given) (g.N.Nodes.store l.fn.nodes) (g.N.Nodes.store l.nodes);
}
