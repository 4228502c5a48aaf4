use Rattle.std.proofs.Common.{◌≡◌, length}
use Rattle.counter_run.specs.private.Matrix.{IsMatrix, cell}
use Rattle.counter_run.proofs.Given.{AreCompleted}
use Rattle.counter_run.proofs.completion.complete_times.Given as goal

abbrev pub invariant-loop-t : goal.invariant-loop-t
invariant-loop-t l = record {
  matrix : IsMatrix l.net.raw.nets l.times l.rows;
  completed : AreCompleted l.net.raw l.times l.first (cell l.fn.rows) (cell l.rows) l.held.items l.t;
  size : length l.bits ≡ l.net.raw.nets;
}
