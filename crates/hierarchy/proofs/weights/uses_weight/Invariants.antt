use Rattle.std.proofs.Common.{◌≡◌, ◌≤◌, ◌+◌, drop, min}
use Rattle.std.specs.Prelude.{filter_map}
use Rattle.hierarchy.specs.Lines.{use_of}
use Rattle.hierarchy.specs.private.Counts.{sum_of, uses_weight, weight_at}
use Rattle.hierarchy.proofs.weights.uses_weight.Given as goal

-- the weight so far, with that of the uses that are left
abbrev pub invariant-loop-item : goal.invariant-loop-item
invariant-loop-item l = record {
  capped : l.total ≤ l.cap;
  rest : min l.cap (l.total + sum_of (weight_at l.measure l.weights l.names.keys) (filter_map use_of (drop l.item-index l.model.items)))
      ≡ min l.cap (uses_weight l.measure l.weights l.names.keys l.model);
}
