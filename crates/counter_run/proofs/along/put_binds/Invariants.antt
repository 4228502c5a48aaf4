use Rattle.std.proofs.Common.{◌≡◌, ◌≢◌, ℕ, take}
use Rattle.ste_model.specs.Edges.{bind_cuts}
use Rattle.counter_run.specs.private.Asking.{IsAskedOr}
use Rattle.counter_run.specs.private.Matrix.{SameShape, cell}
use Rattle.counter_run.proofs.along.put_binds.Given as goal

-- what the bindings so far ask is there
abbrev pub invariant-loop-bind : goal.invariant-loop-bind
invariant-loop-bind l = record {
  shape : SameShape l.fn.rows l.rows;
  here : (id : ℕ) → IsAskedOr (bind_cuts (take l.bind-index l.binds) l.bits) id (cell l.fn.rows l.t id) (cell l.rows l.t id);
  others : (s id : ℕ) → s ≢ l.t → cell l.rows s id ≡ cell l.fn.rows s id;
}
