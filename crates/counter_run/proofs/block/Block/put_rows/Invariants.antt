use Rattle.std.proofs.Common.{◌≡◌, ◌≤◌, ◌<◌, ℕ}
use Rattle.counter_run.specs.private.Block.{over_block}
use Rattle.counter_run.specs.private.Matrix.{SameShape, cell}
use Rattle.counter_run.proofs.block.Block.put_rows.Given as goal

abbrev pub invariant-loop-id : goal.invariant-loop-id
invariant-loop-id l = record {
  shape : SameShape l.fn.rows l.rows;
  placed : (s id : ℕ) → id < l.id → cell l.rows s id ≡ over_block (cell l.fn.rows) l.self s id;
  others : (s id : ℕ) → l.id ≤ id → cell l.rows s id ≡ cell l.fn.rows s id;
}
