use Rattle.std.proofs.Common.{ℕ, drop, All}
use Rattle.ste_base.specs.Functions.{Function}
use Rattle.dd_nodes.specs.Spending.{Spends}
use Rattle.dd_nodes.specs.Stores.{IsRef}
use Rattle.net_core.specs.Work.{disjunction, sum}
use Rattle.exact_engine.specs.private.Bits.{AreAt, of_nodes, row_sums, rows_work}
use Rattle.exact_engine.specs.private.Joined.{Leads}
use Rattle.exact_engine.proofs.gates.rows_sum.Given as goal

-- the sum of the first rows
abbrev pub invariant-loop-row : goal.invariant-loop-row
invariant-loop-row g l = record {
  refs : All (IsRef (g.N.Nodes.store l.nodes)) l.bits;
  held : IsRef (g.N.Nodes.store l.nodes) l.sum;
  so : (bit : ℕ → Function) → AreAt (g.N.Nodes.store l.fn.nodes) bit l.bits l.inputs →
      Spends (rows_work l.rows (of_nodes bit l.inputs)) (g.N.Nodes.store l.fn.nodes) (g.N.Nodes.store l.nodes) ⊥;
  leads : (bit : ℕ → Function) → AreAt (g.N.Nodes.store l.fn.nodes) bit l.bits l.inputs →
      Leads disjunction (sum (row_sums l.rows (of_nodes bit l.inputs))) (rows_work l.rows (of_nodes bit l.inputs))
      (row_sums (drop l.row-index l.rows) (of_nodes bit l.inputs)) (g.N.Nodes.store l.nodes) l.sum;
}
