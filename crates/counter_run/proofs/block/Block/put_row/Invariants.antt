use Rattle.std.proofs.Common.{◌≡◌, ◌+◌, ◌-◌, ◌≤◌, ◌<◌, ℕ, false, get_or, length}
use Rattle.std.specs.Prelude.{◌⊎◌}
use Rattle.counter_run.specs.private.Block.{block_bit}
use Rattle.counter_run.proofs.block.Block.put_row.Given as goal

abbrev pub invariant-loop-t : goal.invariant-loop-t
invariant-loop-t l = record {
  long : length l.row ≡ length l.fn.row;
  low : l.self.from ≤ l.t;
  high : l.t ≤ l.self.from + (l.self.to - l.self.from);
  inside : (t : ℕ) → l.self.from ≤ t → t < l.t → get_or l.row t false ≡ block_bit l.self t l.id;
  outside : (t : ℕ) → (t < l.self.from) ⊎ (l.t ≤ t) → get_or l.row t false ≡ get_or l.fn.row t false;
}
