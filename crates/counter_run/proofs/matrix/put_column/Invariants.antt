use Rattle.std.proofs.Common.{◌≡◌, ◌≢◌, ◌<◌, ℕ}
use Rattle.clock_step.specs.Determined.{bit_at}
use Rattle.counter_run.specs.private.Matrix.{SameShape, cell}
use Rattle.counter_run.proofs.matrix.put_column.Given as goal

abbrev pub invariant-loop-id : goal.invariant-loop-id
invariant-loop-id l = record {
  shape : SameShape l.fn.rows l.rows;
  placed : (id : ℕ) → id < l.id → cell l.rows l.t id ≡ bit_at l.bits id;
  others : (s id : ℕ) → s ≢ l.t → cell l.rows s id ≡ cell l.fn.rows s id;
}
