use Rattle.std.proofs.Common.{List, take, ℕ}
use Rattle.std.specs.List.{AllZip}
use Rattle.ste_base.specs.Functions.{Function}
use Rattle.dd_nodes.specs.Stores.{Keeps, Means}
use Rattle.net_core.specs.Work.{SymbolicSet, SymbolicCut}
use Rattle.dual_rail.specs.Rail.{AreRails}
use Rattle.dual_rail.proofs.Works.{SoFar}
use Rattle.sym_step.specs.Step.{IsCutBy}
use Rattle.gste_engine.specs.private.EdgeFinds.{AreFindings, AreFindingsRefs, gated_finds_work, more_gated_strong, more_gated_weak}
use Rattle.gste_engine.proofs.found.find_all.Given as goal

-- what the first consequents find
abbrev pub invariant-loop-k : goal.invariant-loop-k
invariant-loop-k g l = record {
  keeps : Keeps (g.N.Nodes.store l.fn.nodes) (g.N.Nodes.store l.nodes);
  refs : AreFindingsRefs (g.N.Nodes.store l.nodes) l.all;
  so : (sets : ℕ → SymbolicSet) (ds : List SymbolicCut) (z f h e : Function) → AllZip (λ d r. AreRails (g.N.Nodes.store l.fn.nodes) (sets d.node) r) ds l.seen → AllZip (IsCutBy (g.N.Nodes.store l.fn.nodes)) ds l.cuts
      → Means (g.N.Nodes.store l.fn.nodes) z l.gate → AreFindings f h e (g.N.Nodes.store l.fn.nodes) l.fn.found
      → SoFar (gated_finds_work sets ds z f h) (g.N.Nodes.store l.fn.nodes) (g.N.Nodes.store l.nodes) × AreFindings (more_gated_strong sets (take l.k ds) z f) (more_gated_weak sets (take l.k ds) z h) e (g.N.Nodes.store l.nodes) l.all;
}
