use Rattle.std.proofs.Common.{◌≡◌, ◌≤◌, ◌<◌, ℕ, List, length, take, get_or}
use Rattle.dd_nodes.specs.Stores.{IsRef, Means, Keeps}
use Rattle.net_core.specs.declared.cover.Lit.{Lit}
use Rattle.net_core.specs.declared.cover.Lit.TheVariants.{Any}
use Rattle.net_core.specs.Work.{SymbolicSet, factors, product, products}
use Rattle.dual_rail.specs.Calls.{Reached}
use Rattle.gate_sets.specs.NetSets.{HaveInputs, sets_at}
use Rattle.gate_sets.proofs.Summing.{begun_product}
use Rattle.gate_sets.proofs.sums.row_product.Given as goal

-- the product of the first literals
abbrev pub invariant-loop-k : goal.invariant-loop-k
invariant-loop-k g l = record {
  keeps : Keeps (g.N.Nodes.store l.fn.nodes) (g.N.Nodes.store l.nodes);
  ref : IsRef (g.N.Nodes.store l.nodes) l.whole;
  so : (sets : ℕ → SymbolicSet) (row : List Lit) → length row ≡ length l.inputs → ((k : ℕ) → l.from ≤ k → k < length row → get_or row k Any ≡ Any) → HaveInputs (g.N.Nodes.store l.fn.nodes) sets l.nets l.inputs
      → Means (g.N.Nodes.store l.fn.nodes) (product (take l.from (factors row (sets_at sets l.inputs)))) l.fn.all
      → Reached (products (factors row (sets_at sets l.inputs))) (begun_product row (sets_at sets l.inputs) l.k) (g.N.Nodes.store l.fn.nodes) (g.N.Nodes.store l.nodes) l.whole;
}
