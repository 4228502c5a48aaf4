use Rattle.std.proofs.Common.{ℕ, drop, All}
use Rattle.ste_base.specs.Functions.{Function}
use Rattle.dd_nodes.specs.Spending.{Spends}
use Rattle.dd_nodes.specs.Stores.{IsRef}
use Rattle.net_core.specs.Work.{conjunction, product, products}
use Rattle.exact_model.specs.ExactWork.{row_factors}
use Rattle.exact_engine.specs.private.Bits.{AreAt, of_nodes}
use Rattle.exact_engine.specs.private.Joined.{Leads}
use Rattle.exact_engine.proofs.gates.row_product.Given as goal

-- the product of the first literals
abbrev pub invariant-loop-k : goal.invariant-loop-k
invariant-loop-k g l = record {
  refs : All (IsRef (g.N.Nodes.store l.nodes)) l.bits;
  held : IsRef (g.N.Nodes.store l.nodes) l.all;
  so : (bit : ℕ → Function) → AreAt (g.N.Nodes.store l.fn.nodes) bit l.bits l.inputs →
      Spends (products (row_factors l.row (of_nodes bit l.inputs))) (g.N.Nodes.store l.fn.nodes) (g.N.Nodes.store l.nodes) ⊥;
  leads : (bit : ℕ → Function) → AreAt (g.N.Nodes.store l.fn.nodes) bit l.bits l.inputs →
      Leads conjunction (product (row_factors l.row (of_nodes bit l.inputs))) (products (row_factors l.row (of_nodes bit l.inputs)))
      (row_factors (drop l.k l.row) (drop l.k (of_nodes bit l.inputs))) (g.N.Nodes.store l.nodes) l.all;
}
