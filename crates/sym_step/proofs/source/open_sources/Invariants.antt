use Rattle.std.proofs.Common.{◌≡◌, List, ℕ, length, All}
use Rattle.sym_step.specs.private.Parts.{asks}
use Rattle.std.specs.List.{AllZip}
use Rattle.dd_nodes.specs.Stores.{Keeps}
use Rattle.net_core.specs.Work.{SymbolicSet, SymbolicCut, time_work}
use Rattle.dual_rail.proofs.Works.{SoFar}
use Rattle.sym_step.specs.Step.{IsCutBy}
use Rattle.net_core.specs.Work.{ArePossibleEach}
use Rattle.sym_step.specs.private.Boards.{Follows}
use Rattle.sym_step.specs.private.Frames.{HaveOpen, StayRight}
use Rattle.gate_sets.specs.NetSets.{AreNetRefs}
use Rattle.sym_step.proofs.source.open_sources.Given as goal

-- the first of the nets have their sets
abbrev pub invariant-loop-node : goal.invariant-loop-node
invariant-loop-node g l = record {
  keeps : Keeps (g.N.Nodes.store l.fn.nodes) (g.N.Nodes.store l.nodes);
  refs : All (AreNetRefs (g.N.Nodes.store l.nodes)) l.board.nets.items;
  follows : Follows l.fn.board l.board;
  so : (ls : List SymbolicSet) (ds : List SymbolicCut) (sets : ℕ → SymbolicSet) → length ls ≡ length l.net.raw.latches → ArePossibleEach (g.N.Nodes.store l.fn.nodes).vars l.net.raw ls (asks l.demands.weak ds) sets → AllZip (IsCutBy (g.N.Nodes.store l.fn.nodes)) ds l.demands.cuts
      → SoFar (time_work l.net.raw ls (asks l.demands.weak ds) sets) (g.N.Nodes.store l.fn.nodes) (g.N.Nodes.store l.nodes) × HaveOpen l.net.raw sets (g.N.Nodes.store l.nodes) l.ids l.node-index l.board.nets.items × StayRight sets (g.N.Nodes.store l.fn.nodes) l.fn.board.nets.items (g.N.Nodes.store l.nodes) l.board.nets.items;
}
