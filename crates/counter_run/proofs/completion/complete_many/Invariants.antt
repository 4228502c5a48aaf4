use Rattle.std.proofs.Common.{◌≡◌, length}
use Rattle.clock_step.specs.Resting.{AreAtRest}
use Rattle.counter_run.specs.private.Block.{IsBlock, over_block}
use Rattle.counter_run.specs.private.Matrix.{IsMatrix, cell}
use Rattle.counter_run.proofs.Given.{AreCompleted}
use Rattle.counter_run.proofs.completion.complete_many.Given as goal

abbrev pub invariant-loop-time : goal.invariant-loop-time
invariant-loop-time l = record {
  matrix : IsMatrix l.net.raw.nets l.times l.rows;
  block : IsBlock l.net.raw.nets l.block;
  behind : l.block.to ≡ l.time;
  completed : AreCompleted l.net.raw l.times l.first (cell l.fn.rows) (over_block (cell l.rows) l.block) l.held.items l.time;
  size : length l.bits ≡ l.net.raw.nets;
  marks : length l.due ≡ length l.net.settled;
  rest : AreAtRest l.net.raw l.net.settled l.due l.bits;
}
