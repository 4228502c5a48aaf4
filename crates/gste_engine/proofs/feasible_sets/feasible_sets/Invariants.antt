use Rattle.std.proofs.Common.{List, map}
use Rattle.std.specs.List.{AllZip}
use Rattle.ste_base.specs.Functions.{Function}
use Rattle.dd_nodes.specs.Stores.{Keeps, Means}
use Rattle.net_core.specs.Work.{SymbolicSet}
use Rattle.dual_rail.specs.Rail.{AreRails}
use Rattle.sym_step.specs.Frame.{input_rails, nets_of}
use Rattle.gste_engine.proofs.GatedSets.{GatedSoFar}
use Rattle.gste_engine.proofs.feasible_sets.feasible_sets.Given as goal

-- the first sets are gated
abbrev pub invariant-loop-k : goal.invariant-loop-k
invariant-loop-k g l = record {
  keeps : Keeps (g.N.Nodes.store l.fn.nodes) (g.N.Nodes.store l.nodes);
  so : (ws : List SymbolicSet) (f : Function) → AllZip (AreRails (g.N.Nodes.store l.fn.nodes)) ws (map (input_rails (nets_of l.frame)) l.latches) → Means (g.N.Nodes.store l.fn.nodes) f l.gate → GatedSoFar ws f (g.N.Nodes.store l.fn.nodes) (g.N.Nodes.store l.nodes) l.k l.all.items;
}
