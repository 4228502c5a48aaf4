use Rattle.std.proofs.Common.{◌≡◌, ◌<◌, ℕ, slice_index_or}
use Rattle.dual_rail.specs.declared.rails.Rails.{Rails}
use Rattle.gate_sets.specs.private.TruthTables.{AreFrom}
use Rattle.gate_sets.proofs.by_table.first_variable.Given as goal

-- the references so far read no earlier variable
abbrev pub invariant-loop-r : goal.invariant-loop-r
invariant-loop-r g l = record {
  store : g.N.Nodes.store l.nodes ≡ g.N.Nodes.store l.fn.nodes;
  from : (k : ℕ) (d : Rails) → k < l.r-index → AreFrom (g.N.Nodes.store l.fn.nodes).held l.var (slice_index_or l.operands k d);
}
