use Rattle.std.proofs.Common.{◌≡◌, ◌<◌, ◌≤◌, ℕ, get_or}
use Rattle.std.specs.Prelude.{Some, slice_get}
use Rattle.ste_model.specs.declared.task.Edge.{Edge}
use Rattle.ste_model.specs.Edges.{bind_cuts}
use Rattle.counter_run.specs.private.Asking.{IsAskedOr}
use Rattle.counter_run.specs.private.Matrix.{SameShape, cell}
use Rattle.counter_run.proofs.along.put_path.Given as goal

-- what the edges so far ask is there, and later times are as they were
abbrev pub invariant-loop-i : goal.invariant-loop-i
invariant-loop-i l = record {
  shape : SameShape l.fn.rows l.rows;
  each : (i : ℕ) (edge : Edge) (id : ℕ) → i < l.i → slice_get l.edges (get_or l.path i 0) ≡ Some edge → IsAskedOr (bind_cuts edge.ant l.bits) id (cell l.fn.rows i id) (cell l.rows i id);
  later : (s id : ℕ) → l.i ≤ s → cell l.rows s id ≡ cell l.fn.rows s id;
}
