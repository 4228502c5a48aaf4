use Rattle.std.proofs.Common.{◌∙◌, arith, refl}
use Rattle.counter_run.specs.private.Matrix.{cell}
use Rattle.counter_run.proofs.Cells.{matrix_as}
use Rattle.counter_run.proofs.Given.{all_completed, none_completed, one_completed}
use Rattle.counter_run.proofs.completion.complete_times.Goals as goal

pub loop-t-init : goal.loop-t-init
loop-t-init c = record {
  matrix = c.requires.matrix;
  completed = none_completed c.args.net.now.raw c.args.times c.args.first.now _ (cell c.args.rows.now) (cell c.args.rows.now) c.in_ok-held.ensures c.requires.first (λ s id. refl);
  size = c.requires.long;
}

pub loop-t-preserved : goal.loop-t-preserved
loop-t-preserved c =
    let net = c.args.net.now in
    let before = c.loop-t.invariant in
    let column = c.put_column.ensures in
    let tall = before.matrix.tall in
    record {
      matrix = matrix_as net.raw.nets c.args.times c.loop-t.rows c.put_column.new.rows before.matrix column.shape;
      completed = one_completed net.raw c.args.nodes.now c.args.times c.loop-t.t c.args.first.now c.deref.result.now c.loop-t.held.items c.deref-in-loop-t.result.now c.settle.new.bits c.hold_next.new.held.items (cell c.args.rows.now) (cell c.loop-t.rows) (cell c.put_column.new.rows) (cell c.loop-t.rows c.loop-t.t) net.in_range c.requires.nodes
          c.loop-t-test.true (c.deref.ensures.value ∙ c.in_ok-gather.ensures) (λ id. refl) c.deref-in-loop-t.ensures.value c.settle.ensures (λ id l. column.placed id (omega (arith, tall, l))) (λ s id l. column.others s id) c.in_ok-hold_next.ensures before.completed;
      size = omega arith;
    }

pub returns-clause-run : goal.returns-clause-run
returns-clause-run c =
    let net = c.args.net.now in
    all_completed net.raw net.settled c.args.times c.loop-t.t c.args.first.now c.loop-t.held.items (cell c.args.rows.now) (cell c.loop-t.rows) (cell c.loop-t.rows) net.in_range net.one_driver net.in_order c.requires.first (omega (arith, c.loop-t-test.false)) (λ s id l. refl) c.loop-t.invariant.completed
