use Rattle.std.proofs.Common.{◌≡◌, drop, map, max}
use Rattle.std.specs.Prelude.{fold}
use Rattle.exact_model.specs.Choices.{exact_width, task_width}
use Rattle.work_pool.proofs.width.exact_width.Given as goal

-- the tasks that are left decide
abbrev pub invariant-loop-task : goal.invariant-loop-task
invariant-loop-task l = fold max l.width (map (task_width l.net.raw l.vars) (drop l.task-index l.task-items)) ≡ exact_width l.net.raw l.tasks
