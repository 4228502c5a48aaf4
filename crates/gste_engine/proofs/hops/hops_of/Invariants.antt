use Rattle.std.proofs.Common.{ℕ, length, take}
use Rattle.sym_step.specs.Frame.{IsFrame}
use Rattle.engine_parts.specs.Failing.{FailsBy, MakesNothing}
use Rattle.ste_model.specs.GraphHops.{AreEdgeHops}
use Rattle.ste_model.specs.GraphWork.{SymbolicState}
use Rattle.gste_engine.specs.Tables.{HasStates}
use Rattle.gste_engine.specs.private.Taken.{table_at}
use Rattle.gste_engine.proofs.hops.hops_of.Given as goal

-- those of the first edges, and nothing is made; the frame is of some time
abbrev pub invariant-loop-k : goal.invariant-loop-k
invariant-loop-k g l = record {
  same : MakesNothing (g.N.Nodes.store l.fn.nodes) (g.N.Nodes.store l.nodes);
  frame : IsFrame (g.N.Nodes.store l.nodes) l.net.raw l.frame;
  so : (states : ℕ → SymbolicState) → HasStates states (length l.graph.vertices) (g.N.Nodes.store l.fn.nodes) l.table → AreEdgeHops (FailsBy l.failure) l.net.raw l.bits (table_at l.bits states) (take l.k l.graph.edges) l.hops.items;
}
