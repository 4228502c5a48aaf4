use Rattle.std.proofs.Common.{◌≡◌, ◌≢◌, ◌+◌, ◌<◌, ◌≤◌, ◌-◌, ℕ, All, get_or, length, map}
use Rattle.std.specs.Prelude.{◌⊎◌}
use Rattle.net_core.specs.declared.raw.Latch.{Latch}
use Rattle.sym_step.specs.Frame.{bare, input_rails}
use Rattle.sym_step.specs.private.Frames.{AreCarried}
use Rattle.sym_step.specs.private.Demands.{nodes_of}
use Rattle.sym_step.specs.private.Latches.{IsAmong, IsInPlace, IsSetOf}
use Rattle.sym_step.specs.private.Readers.{flag_at}
use Rattle.sym_step.proofs.latches.due_sets.Given as goal

-- the sets of those of the first latches that do not have theirs yet; the marks of all others are as they were
abbrev pub invariant-loop-l : goal.invariant-loop-l
invariant-loop-l l = record {
  within : l.l ≤ length l.net.raw.latches;
  nets : l.board.nets ≡ l.fn.board.nets;
  readers : l.board.readers ≡ l.fn.board.readers;
  full : l.board.full ≡ l.fn.board.full;
  order : l.board.due.order ≡ l.fn.board.due.order;
  long : length l.board.due.flags.items ≡ length l.fn.board.due.flags.items;
  rest : (k : ℕ) → ((j : ℕ) → j < l.l → k ≢ length l.net.raw.gates + j) → flag_at l.board.due.flags.items k ≡ flag_at l.fn.board.due.flags.items k;
  own : All (IsSetOf l.net.raw (map (input_rails (map bare l.fn.board.nets.items)) l.net.raw.latches) l.demands.weak l.fn.board.nets.items) l.sets.items;
  each : AreCarried l.net.raw (nodes_of l.demands.weak l.demands.cuts) l.fn.board → (k : ℕ) (d : Latch) → k < l.l → k < length l.net.raw.latches
      → IsAmong l.sets.items (get_or l.net.raw.latches k d).output.0 ⊎ IsInPlace (map (input_rails (map bare l.fn.board.nets.items)) l.net.raw.latches) (nodes_of l.demands.weak l.demands.cuts) l.fn.board.nets.items k (get_or l.net.raw.latches k d);
  carried : AreCarried l.net.raw (nodes_of l.demands.weak l.demands.cuts) l.fn.board → AreCarried l.net.raw (nodes_of l.demands.weak l.demands.cuts) l.board;
}

abbrev pub decreases-loop-l : goal.decreases-loop-l
decreases-loop-l l = length l.latches - l.l
