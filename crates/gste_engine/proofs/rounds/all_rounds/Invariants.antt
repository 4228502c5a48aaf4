use Rattle.std.proofs.Common.{◌+◌, ◌*◌, ℕ, length}
use Rattle.dd_nodes.specs.Stores.{Keeps}
use Rattle.net_core.specs.Work.{SymbolicSet}
use Rattle.ste_model.specs.declared.task.Edge.{Edge}
use Rattle.ste_model.specs.GraphNeed.{AreWholeRounds}
use Rattle.ste_model.specs.GraphWork.{SymbolicState}
use Rattle.gste_engine.specs.private.Rounds.{IsBetween}
use Rattle.gste_engine.proofs.NextTables.{RoundsSoFar}
use Rattle.gste_engine.proofs.rounds.all_rounds.Given as goal

-- round 1 and so many groups of rounds are done
abbrev pub invariant-loop : goal.invariant-loop
invariant-loop g l = record {
  keeps : Keeps (g.N.Nodes.store l.fn.nodes) (g.N.Nodes.store l.nodes);
  between : IsBetween (g.N.Nodes.store l.nodes) l.net.raw l.graph l.progress;
  so : (tables : ℕ → ℕ → SymbolicState) (sets : ℕ → Edge → ℕ → SymbolicSet) → AreWholeRounds l.net.raw (g.N.Nodes.store l.fn.nodes).vars l.graph tables sets
      → RoundsSoFar l.net.raw l.graph tables sets (g.N.Nodes.store l.fn.nodes) (g.N.Nodes.store l.nodes) (l.counter * (length l.net.raw.latches * 2 + 1) + 1) l.progress.table.items;
}
