use Rattle.std.proofs.Common.{◌≡◌, ◌+◌, ◌-◌, ◌≤◌, ◌<◌, ℕ, false, get_or, length}
use Rattle.std.specs.Prelude.{◌⊎◌}
use Rattle.counter_run.proofs.row.Row.fill.Given as goal

abbrev pub invariant-loop-t : goal.invariant-loop-t
invariant-loop-t l = record {
  long : length l.self ≡ length l.fn.self;
  low : l.from ≤ l.t;
  high : l.t ≤ l.from + (l.to - l.from);
  inside : (t : ℕ) → l.from ≤ t → t < l.t → get_or l.self t false ≡ l.bit;
  outside : (t : ℕ) → (t < l.from) ⊎ (l.t ≤ t) → get_or l.self t false ≡ get_or l.fn.self t false;
}
