use Rattle.task_binding.proofs.Large.{large_turn}
use Rattle.task_binding.proofs.sizes.first_large.Goals as goal

pub returns-then-size-total : goal.returns-then-size-total
returns-then-size-total c = large_turn c.args.nets c.args.tasks.now c.loop-task.task-index c.task-item.result _ c.cells-size.result c.loop-task.total c.loop-task-test.true c.task-item.is c.cells-size.ensures c.if-size-total.true c.loop-task.invariant.0 c.loop-task.invariant.1 c.head_line.ensures
