use Rattle.std.proofs.Common.{◌≡◌, ◌≤◌, take}
use Rattle.std.specs.Prelude.{sum_by}
use Rattle.task_binding.specs.Sizes.{cells}
use Rattle.task_binding.proofs.sizes.first_large.Given as goal

-- the cells of the tasks so far, which fit
abbrev pub invariant-loop-task : goal.invariant-loop-task
invariant-loop-task l = (l.total ≡ sum_by (cells l.nets) (take l.task-index l.tasks)) × (l.total ≤ 100000000)
