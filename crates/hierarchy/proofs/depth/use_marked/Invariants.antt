use Rattle.std.proofs.Common.{◌≡◌, ◌<◌, [], ℕ, false, get_or, length}
use Rattle.std.specs.List.{list_any}
use Rattle.hierarchy.proofs.depth.use_marked.Given as goal

abbrev pub invariant-loop-used : goal.invariant-loop-used
invariant-loop-used l = record {
  long : length l.next.items ≡ l.used-index;
  each : (k : ℕ) → k < l.used-index → get_or l.next.items k false ≡ list_any (λ j. get_or l.marks j false) (get_or l.graph k []);
}
