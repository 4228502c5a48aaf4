use Rattle.std.proofs.Common.{None}
use Rattle.task_binding.specs.Mentions.{mentions_of, task_mentions}
use Rattle.task_binding.proofs.Leading.{from_none, item_on, items_end}
use Rattle.task_binding.proofs.unknown.first_unknown.Goals as goal

pub loop-task-preserved : goal.loop-task-preserved
loop-task-preserved g c = item_on (g.N.Resolve.net_of c.args.names.now) task_mentions c.args.tasks.now c.loop-task.task-index c.task-item.result None c.loop-task.found c.in_ok-found.found c.loop-task-test.true c.task-item.is c.loop-task.invariant c.in_ok-found.ensures

pub returns : goal.returns
returns g c = from_none (g.N.Resolve.net_of c.args.names.now) (mentions_of c.args.tasks.now) c.loop-task.found (items_end (g.N.Resolve.net_of c.args.names.now) task_mentions c.args.tasks.now c.loop-task.task-index None c.loop-task.found c.loop-task-test.false c.loop-task.invariant)
