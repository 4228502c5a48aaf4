use Rattle.std.proofs.Common.{ℕ, map}
use Rattle.net_core.specs.declared.bit_set.BitSet.{BitSet}
use Rattle.ste_model.specs.Found.{IsTableOf}
use Rattle.engine_parts.specs.Failing.{MakesNothing, fixed_quint}
use Rattle.sym_step.specs.Frame.{IsFrame, next_of}
use Rattle.ste_engine.specs.private.Turns.{IsLine}
use Rattle.ste_engine.specs.private.Weakened.{IsWeakLine}
use Rattle.ste_engine.proofs.PlaceTurns.{IsPlaceAt}
use Rattle.ste_engine.proofs.place.failing_place.Given as goal

-- the lines have come to this time, no time before it fails, and nothing is made
abbrev pub invariant-loop-t : goal.invariant-loop-t
invariant-loop-t g l = record {
  ant : IsLine (g.N.Nodes.store l.nodes) (map (fixed_quint l.bits) l.task.ant) l.depth l.t l.ant;
  con : IsLine (g.N.Nodes.store l.nodes) (map (fixed_quint l.bits) l.task.con) l.depth l.t l.con;
  weak : IsWeakLine l.task.weak l.depth l.t l.weak;
  reached : (table : ℕ → ℕ → BitSet) → IsTableOf l.net.raw l.task l.bits table → IsPlaceAt l.net.raw l.task l.bits l.failure table (g.N.Nodes.store l.nodes) l.t (next_of l.net.raw l.frame);
  frame : IsFrame (g.N.Nodes.store l.nodes) l.net.raw l.frame;
  same : MakesNothing (g.N.Nodes.store l.fn.nodes) (g.N.Nodes.store l.nodes);
}
