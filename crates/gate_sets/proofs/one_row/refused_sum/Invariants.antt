use Rattle.std.proofs.Common.{ℕ}
use Rattle.dd_nodes.specs.Stores.{IsRef, Keeps}
use Rattle.net_core.specs.Work.{SymbolicSet}
use Rattle.gate_sets.specs.NetSets.{HaveInputs, sets_at}
use Rattle.gate_sets.proofs.OneRow.{AddsTo}
use Rattle.gate_sets.proofs.one_row.refused_sum.Given as goal

-- the sum of what the first literals refuse
abbrev pub invariant-loop-k : goal.invariant-loop-k
invariant-loop-k g l = record {
  keeps : Keeps (g.N.Nodes.store l.fn.nodes) (g.N.Nodes.store l.nodes);
  ref_of : IsRef (g.N.Nodes.store l.nodes) l.sum;
  so : (sets : ℕ → SymbolicSet) → HaveInputs (g.N.Nodes.store l.fn.nodes) sets l.nets l.inputs
      → AddsTo l.row (sets_at sets l.inputs) l.k (g.N.Nodes.store l.fn.nodes) (g.N.Nodes.store l.nodes) l.sum;
}
