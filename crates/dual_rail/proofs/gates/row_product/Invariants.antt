use Rattle.std.proofs.Common.{List, take}
use Rattle.std.specs.List.{AllZip}
use Rattle.dd_nodes.specs.Stores.{IsRef, Keeps}
use Rattle.net_core.specs.Work.{SymbolicSet, always, conjunction, factors, whole}
use Rattle.dual_rail.specs.Rail.{AreRails}
use Rattle.dual_rail.specs.private.Parts.{row_work}
use Rattle.dual_rail.specs.Calls.{Reached}
use Rattle.dual_rail.proofs.gates.row_product.Given as goal

-- the product of the first literals
abbrev pub invariant-loop-k : goal.invariant-loop-k
invariant-loop-k g l = record {
  keeps : Keeps (g.N.Nodes.store l.fn.nodes) (g.N.Nodes.store l.nodes);
  ref : IsRef (g.N.Nodes.store l.nodes) l.all;
  so : (sets : List SymbolicSet) → AllZip (AreRails (g.N.Nodes.store l.fn.nodes)) sets l.inputs → Reached (row_work l.row sets) (whole conjunction always (take l.k (factors l.row sets))) (g.N.Nodes.store l.fn.nodes) (g.N.Nodes.store l.nodes) l.all;
}
