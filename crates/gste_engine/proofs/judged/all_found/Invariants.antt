use Rattle.std.proofs.Common.{ℕ, length}
use Rattle.dd_nodes.specs.Stores.{Keeps}
use Rattle.net_core.specs.Work.{SymbolicSet}
use Rattle.ste_model.specs.declared.task.Edge.{Edge}
use Rattle.ste_model.specs.GraphWork.{SymbolicState}
use Rattle.gste_engine.specs.Tables.{HasStates}
use Rattle.gste_engine.specs.private.EdgeFinds.{AreFindingsRefs}
use Rattle.gste_engine.proofs.AllGiven.{ArePossibleOn}
use Rattle.gste_engine.proofs.EdgeTurns.{FoundSoFar}
use Rattle.gste_engine.proofs.judged.all_found.Given as goal

-- what is found on the first edges
abbrev pub invariant-loop-k : goal.invariant-loop-k
invariant-loop-k g l = record {
  keeps : Keeps (g.N.Nodes.store l.fn.nodes) (g.N.Nodes.store l.nodes);
  refs : AreFindingsRefs (g.N.Nodes.store l.nodes) l.found;
  so : (states : ℕ → SymbolicState) (sets : Edge → ℕ → SymbolicSet) → HasStates states (length l.table) (g.N.Nodes.store l.fn.nodes) l.table → ArePossibleOn (g.N.Nodes.store l.fn.nodes).vars l.net.raw states sets l.edges
      → FoundSoFar l.net.raw states sets l.edges (g.N.Nodes.store l.fn.nodes) (g.N.Nodes.store l.nodes) l.k l.found;
}
