use Rattle.std.proofs.Common.{◌≡◌, ◌<◌, ◌+◌, [], ℕ, get_or, length, min}
use Rattle.hierarchy.specs.private.Counts.{sum_of}
use Rattle.hierarchy.proofs.counts.one_level_more.Given as goal

abbrev pub invariant-loop-model : goal.invariant-loop-model
invariant-loop-model l = record {
  long : length l.next.items ≡ l.model;
  each : (k : ℕ) → k < l.model → get_or l.next.items k 0 ≡ min l.cap (get_or l.own k 0 + sum_of (λ j. get_or l.counts j 0) (get_or l.graph k []));
}
