use Rattle.std.proofs.Common.{ℕ, take}
use Rattle.ste_model.specs.Asked.{cuts_at}
use Rattle.counter_run.specs.private.Asking.{IsAskedOr}
use Rattle.counter_run.specs.private.Matrix.{SameShape, cell}
use Rattle.counter_run.proofs.asked.put_quints.Given as goal

-- what the quintuples so far ask is there
abbrev pub invariant-loop-quint : goal.invariant-loop-quint
invariant-loop-quint l = record {
  shape : SameShape l.fn.rows l.rows;
  each : (t id : ℕ) → IsAskedOr (cuts_at (take l.quint-index l.quints) l.bits t) id (cell l.fn.rows t id) (cell l.rows t id);
}
