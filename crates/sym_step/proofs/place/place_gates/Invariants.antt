use Rattle.std.proofs.Common.{◌≡◌, ◌≤◌, ◌-◌, List, ℕ, length, All}
use Rattle.sym_step.specs.private.Parts.{HaveGates, asks}
use Rattle.std.specs.List.{AllZip}
use Rattle.dd_nodes.specs.Stores.{Keeps}
use Rattle.net_core.specs.Work.{SymbolicSet, SymbolicCut, time_work}
use Rattle.sym_step.specs.private.Demands.{nodes_of}
use Rattle.sym_step.specs.private.Boards.{Follows}
use Rattle.sym_step.specs.private.Frames.{AreSpared}
use Rattle.gate_sets.specs.NetSets.{AreNetRefs}
use Rattle.dual_rail.proofs.Works.{SoFar}
use Rattle.sym_step.specs.Step.{IsCutBy}
use Rattle.net_core.specs.Work.{ArePossibleEach}
use Rattle.sym_step.proofs.place.place_gates.Given as goal

-- the first gates have their sets
abbrev pub invariant-loop-place : goal.invariant-loop-place
invariant-loop-place g l = record {
  within : l.place ≤ length l.fn.board.due.order.items;
  room : length l.products ≡ length l.fn.products;
  keeps : Keeps (g.N.Nodes.store l.fn.nodes) (g.N.Nodes.store l.nodes);
  refs : All (AreNetRefs (g.N.Nodes.store l.nodes)) l.board.nets.items;
  follows : Follows l.fn.board l.board;
  spared : AreSpared (g.N.Nodes.store l.nodes) l.net.raw (nodes_of l.demands.weak l.demands.cuts) l.board;
  so : (ls : List SymbolicSet) (ds : List SymbolicCut) (sets : ℕ → SymbolicSet) → length ls ≡ length l.net.raw.latches → ArePossibleEach (g.N.Nodes.store l.fn.nodes).vars l.net.raw ls (asks l.demands.weak ds) sets → AllZip (IsCutBy (g.N.Nodes.store l.fn.nodes)) ds l.demands.cuts
      → HaveGates l.net.raw l.fn.board.due.order.items sets (g.N.Nodes.store l.fn.nodes) 0 l.fn.board.nets.items
      → SoFar (time_work l.net.raw ls (asks l.demands.weak ds) sets) (g.N.Nodes.store l.fn.nodes) (g.N.Nodes.store l.nodes) × HaveGates l.net.raw l.fn.board.due.order.items sets (g.N.Nodes.store l.nodes) l.place l.board.nets.items;
}

abbrev pub decreases-loop-place : goal.decreases-loop-place
decreases-loop-place g l = length l.net.raw.gates - l.place
