use Rattle.std.proofs.Common.{◌≡◌, ◌<◌, ◌≤◌, ◌+◌, ◌-◌, ℕ, false, length}
use Rattle.sym_step.specs.private.Readers.{flag_at}
use Rattle.sym_step.proofs.marks.Marks.next_latch.Given as goal

-- no latch so far has a mark
abbrev pub invariant-loop-at : goal.invariant-loop-at
invariant-loop-at l = record {
  behind : l.from ≤ l.at;
  within : l.at ≤ l.count;
  unmarked : (k : ℕ) → l.from ≤ k → k < l.at → flag_at l.self.flags.items (length l.self.order.items + k) ≡ false;
}

abbrev pub decreases-loop-at : goal.decreases-loop-at
decreases-loop-at l = l.count - l.at
