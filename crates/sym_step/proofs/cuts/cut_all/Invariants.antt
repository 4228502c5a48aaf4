use Rattle.std.proofs.Common.{◌≡◌, ◌-◌, ◌≤◌, ◌<◌, List, length, take, ℕ}
use Rattle.std.specs.List.{AllZip}
use Rattle.dd_nodes.specs.Stores.{Keeps}
use Rattle.net_core.specs.Work.{SymbolicSet, SymbolicCut, after_cuts, cuts_work}
use Rattle.sym_step.specs.private.Demands.{node_at}
use Rattle.gate_sets.specs.NetSets.{AreFlagged, AreFlaggedRefs}
use Rattle.dual_rail.proofs.Works.{SoFar}
use Rattle.sym_step.specs.Step.{IsCutBy}
use Rattle.sym_step.proofs.cuts.cut_all.Given as goal

-- the set behind the cuts in front of a place, which is that of the net's next cut
abbrev pub invariant-loop-at : goal.invariant-loop-at
invariant-loop-at g l = record {
  within : l.at ≤ length l.demands.cuts;
  here : l.at < length l.demands.cuts → node_at l.demands.cuts l.at ≡ l.id;
  keeps : Keeps (g.N.Nodes.store l.fn.nodes) (g.N.Nodes.store l.nodes);
  refs : AreFlaggedRefs (g.N.Nodes.store l.nodes) l.left;
  so : (ds : List SymbolicCut) (sets : ℕ → SymbolicSet) → AllZip (IsCutBy (g.N.Nodes.store l.fn.nodes)) ds l.demands.cuts → AreFlagged (g.N.Nodes.store l.fn.nodes) (sets l.id) l.fn.r
      → SoFar (cuts_work ds sets) (g.N.Nodes.store l.fn.nodes) (g.N.Nodes.store l.nodes) × AreFlagged (g.N.Nodes.store l.nodes) (after_cuts (take l.at ds) sets l.id) l.left;
}

abbrev pub decreases-loop-at : goal.decreases-loop-at
decreases-loop-at g l = length l.demands.cuts - l.at
