use Rattle.std.proofs.Common.{◌≡◌, ◌≢◌, ◌<◌, ℕ, get_or}
use Rattle.std.specs.Prelude.{All}
use Rattle.net_core.specs.declared.raw.Latch.{Latch}
use Rattle.counter_run.specs.private.Asking.{start_bit}
use Rattle.counter_run.specs.private.Matrix.{SameShape, cell}
use Rattle.counter_run.proofs.asked.put_starts.Given as goal

-- the latches so far have their first bits
abbrev pub invariant-loop-latch : goal.invariant-loop-latch
invariant-loop-latch l = record {
  shape : SameShape l.fn.rows l.rows;
  latches : (k : ℕ) (d : Latch) → k < l.latch-index → cell l.rows 0 (get_or l.net.raw.latches k d).output.0 ≡ start_bit l.reset (get_or l.net.raw.latches k d).init;
  others : (t id : ℕ) → All (λ latch. latch.output.0 ≢ id) l.net.raw.latches → cell l.rows t id ≡ cell l.fn.rows t id;
}
