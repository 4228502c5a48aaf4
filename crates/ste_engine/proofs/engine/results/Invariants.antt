use Rattle.std.proofs.Common.{ℕ}
use Rattle.net_core.specs.Work.{SymbolicSet}
use Rattle.ste_model.specs.Need.{IsWholeTable}
use Rattle.sym_step.specs.Frame.{IsFrame, next_of}
use Rattle.ste_engine.specs.private.Firsts.{AreFirsts}
use Rattle.ste_engine.specs.private.Turns.{IsLine}
use Rattle.ste_engine.specs.private.Weakened.{IsWeakLine}
use Rattle.ste_engine.proofs.Times.{ReachedAt}
use Rattle.ste_engine.proofs.engine.results.Given as goal

-- the lines have come to this time, and the times before it are dealt with
abbrev pub invariant-loop-t : goal.invariant-loop-t
invariant-loop-t g l = record {
  ant : IsLine (g.N.Nodes.store l.nodes) l.task.ant l.depth l.t l.ant;
  con : IsLine (g.N.Nodes.store l.nodes) l.task.con l.depth l.t l.con;
  weak : IsWeakLine l.task.weak l.depth l.t l.weak;
  frame : IsFrame (g.N.Nodes.store l.nodes) l.net.raw l.frame;
  firsts : AreFirsts (g.N.Nodes.store l.fn.nodes).vars l.net.raw l.task l.firsts;
  reached : (table : ℕ → ℕ → SymbolicSet) → IsWholeTable l.net.raw (g.N.Nodes.store l.fn.nodes).vars l.task table → ReachedAt l.net.raw l.task table (g.N.Nodes.store l.fn.nodes) (g.N.Nodes.store l.nodes) l.t (next_of l.net.raw l.frame) l.reached;
}
