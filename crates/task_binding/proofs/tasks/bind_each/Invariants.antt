use Rattle.std.proofs.Common.{◌≡◌, ◌&&◌, map, take}
use Rattle.std.specs.List.{list_all}
use Rattle.ste_model.specs.Trees.{task_tree}
use Rattle.task_binding.specs.Bound.{net_by, task_bound}
use Rattle.task_binding.specs.private.Known.{task_known}
use Rattle.task_binding.proofs.tasks.bind_each.Given as goal

-- those so far are bound, and it is known whether the nodes of each name nets
abbrev pub invariant-loop-task : goal.invariant-loop-task
invariant-loop-task g l =
    (map task_tree l.bound ≡ map (task_bound (net_by (g.N.Resolve.net_of l.names))) (take l.task-index l.tasks))
    × (l.known ≡ (l.initial.known && list_all (task_known (g.N.Resolve.net_of l.names)) (take l.task-index l.tasks)))
