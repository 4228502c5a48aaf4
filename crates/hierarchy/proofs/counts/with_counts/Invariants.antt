use Rattle.std.proofs.Common.{◌≡◌, ◌≤◌, ◌+◌, drop, get_or, min}
use Rattle.hierarchy.specs.private.Counts.{sum_of}
use Rattle.hierarchy.proofs.counts.with_counts.Given as goal

-- the total so far, with the counts of the models that are left
abbrev pub invariant-loop-model : goal.invariant-loop-model
invariant-loop-model l = record {
  capped : l.total ≤ l.cap;
  rest : min l.cap (l.total + sum_of (λ k. get_or l.counts k 0) (drop l.model-index l.models))
      ≡ min l.cap (l.own + sum_of (λ k. get_or l.counts k 0) l.models);
}
