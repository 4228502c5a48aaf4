use Rattle.std.proofs.Common.{List, take, ℕ, ◌<◌, length}
use Rattle.std.specs.List.{AllZip}
use Rattle.ste_base.specs.Functions.{Function}
use Rattle.dd_nodes.specs.Stores.{Keeps}
use Rattle.net_core.specs.Work.{SymbolicSet, SymbolicCut}
use Rattle.dual_rail.specs.Rail.{AreRails}
use Rattle.dual_rail.proofs.Works.{SoFar}
use Rattle.sym_step.specs.Step.{IsCutBy, rails_at}
use Rattle.sym_step.specs.Frame.{nets_of}
use Rattle.ste_engine.specs.private.Finds.{AreFound, AreFoundRefs, found_work, more_strong, more_weak}
use Rattle.ste_engine.proofs.find.find_all.Given as goal

-- what the first consequents find
abbrev pub invariant-loop-c : goal.invariant-loop-c
invariant-loop-c g l = record {
  keeps : Keeps (g.N.Nodes.store l.fn.nodes) (g.N.Nodes.store l.nodes);
  refs : AreFoundRefs (g.N.Nodes.store l.nodes) l.all;
  so : (sets : ℕ → SymbolicSet) (ds : List SymbolicCut) (f h : Function) → ((id : ℕ) → id < length (nets_of l.frame) → AreRails (g.N.Nodes.store l.fn.nodes) (sets id) (rails_at (nets_of l.frame) id)) → AllZip (IsCutBy (g.N.Nodes.store l.fn.nodes)) ds l.cuts → AreFound f h (g.N.Nodes.store l.fn.nodes) l.fn.found
      → SoFar (found_work sets ds f h) (g.N.Nodes.store l.fn.nodes) (g.N.Nodes.store l.nodes) × AreFound (more_strong sets (take l.c-index ds) f) (more_weak sets (take l.c-index ds) h) (g.N.Nodes.store l.nodes) l.all;
}
