use Rattle.std.proofs.Common.{◌+◌, ◌≤◌, ℕ, length}
use Rattle.dd_nodes.specs.Stores.{Keeps}
use Rattle.net_core.specs.Work.{SymbolicSet}
use Rattle.ste_model.specs.declared.task.Edge.{Edge}
use Rattle.ste_model.specs.GraphNeed.{AreWholeRounds}
use Rattle.ste_model.specs.GraphTable.{enough}
use Rattle.ste_model.specs.GraphWork.{SymbolicState}
use Rattle.gste_engine.specs.Tables.{HasStates}
use Rattle.gste_engine.specs.private.Rounds.{IsBetween}
use Rattle.gste_engine.proofs.NextTables.{RoundsSoFar}
use Rattle.gste_engine.proofs.rounds.more_rounds.Given as goal

-- so many rounds are done
abbrev pub invariant-loop : goal.invariant-loop
invariant-loop g l = record {
  keeps : Keeps (g.N.Nodes.store l.fn.nodes) (g.N.Nodes.store l.nodes);
  between : IsBetween (g.N.Nodes.store l.nodes) l.net.raw l.graph l.progress;
  so : (tables : ℕ → ℕ → SymbolicState) (sets : ℕ → Edge → ℕ → SymbolicSet) (n : ℕ) → AreWholeRounds l.net.raw (g.N.Nodes.store l.fn.nodes).vars l.graph tables sets → n + l.count ≤ enough l.net.raw l.graph → HasStates (tables n) (length l.graph.vertices) (g.N.Nodes.store l.fn.nodes) l.fn.start.table.items
      → RoundsSoFar l.net.raw l.graph tables sets (g.N.Nodes.store l.fn.nodes) (g.N.Nodes.store l.nodes) (n + l.counter) l.progress.table.items;
}
