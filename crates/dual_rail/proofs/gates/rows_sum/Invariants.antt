use Rattle.std.proofs.Common.{List, take}
use Rattle.std.specs.List.{AllZip}
use Rattle.dd_nodes.specs.Stores.{IsRef, Keeps}
use Rattle.net_core.specs.Work.{SymbolicSet, never, disjunction, row_products, rows_work, whole}
use Rattle.dual_rail.specs.Rail.{AreRails}
use Rattle.dual_rail.specs.Calls.{Reached}
use Rattle.dual_rail.proofs.gates.rows_sum.Given as goal

-- the sum of the first rows
abbrev pub invariant-loop-row : goal.invariant-loop-row
invariant-loop-row g l = record {
  keeps : Keeps (g.N.Nodes.store l.fn.nodes) (g.N.Nodes.store l.nodes);
  ref : IsRef (g.N.Nodes.store l.nodes) l.sum;
  so : (sets : List SymbolicSet) → AllZip (AreRails (g.N.Nodes.store l.fn.nodes)) sets l.inputs → Reached (rows_work l.rows sets) (whole disjunction never (take l.row-index (row_products l.rows sets))) (g.N.Nodes.store l.fn.nodes) (g.N.Nodes.store l.nodes) l.sum;
}
