use Rattle.std.proofs.Common.{List, ℕ, All}
use Rattle.sym_step.specs.private.Parts.{asks}
use Rattle.std.specs.List.{AllZip}
use Rattle.dd_nodes.specs.Stores.{Keeps}
use Rattle.net_core.specs.Work.{SymbolicSet, SymbolicCut, time_work}
use Rattle.dual_rail.proofs.Works.{SoFar}
use Rattle.sym_step.specs.Step.{IsCutBy}
use Rattle.net_core.specs.Work.{ArePossibleEach}
use Rattle.sym_step.specs.private.Boards.{Follows}
use Rattle.sym_step.specs.private.Frames.{StayRight}
use Rattle.sym_step.specs.private.Latches.{AreGiven, HaveLatchSets}
use Rattle.gate_sets.specs.NetSets.{AreNetRefs}
use Rattle.sym_step.proofs.source.latch_sources.Given as goal

-- the nets of the first sets have theirs
abbrev pub invariant-loop-latch : goal.invariant-loop-latch
invariant-loop-latch g l = record {
  keeps : Keeps (g.N.Nodes.store l.fn.nodes) (g.N.Nodes.store l.nodes);
  refs : All (AreNetRefs (g.N.Nodes.store l.nodes)) l.board.nets.items;
  follows : Follows l.fn.board l.board;
  so : (ls : List SymbolicSet) (ds : List SymbolicCut) (sets : ℕ → SymbolicSet) → AreGiven (g.N.Nodes.store l.fn.nodes) l.net.raw l.demands.weak ls sets l.latches l.fn.board.nets.items → ArePossibleEach (g.N.Nodes.store l.fn.nodes).vars l.net.raw ls (asks l.demands.weak ds) sets → AllZip (IsCutBy (g.N.Nodes.store l.fn.nodes)) ds l.demands.cuts
      → SoFar (time_work l.net.raw ls (asks l.demands.weak ds) sets) (g.N.Nodes.store l.fn.nodes) (g.N.Nodes.store l.nodes) × HaveLatchSets sets (g.N.Nodes.store l.nodes) l.latches l.latch-index l.board.nets.items × StayRight sets (g.N.Nodes.store l.fn.nodes) l.fn.board.nets.items (g.N.Nodes.store l.nodes) l.board.nets.items;
}
