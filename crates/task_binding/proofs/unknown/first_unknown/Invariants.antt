use Rattle.std.proofs.Common.{take}
use Rattle.std.specs.List.{flat_map}
use Rattle.task_binding.specs.Mentions.{task_mentions}
use Rattle.task_binding.specs.private.Leading.{GoesOn}
use Rattle.task_binding.proofs.unknown.first_unknown.Given as goal

-- what is found so far
abbrev pub invariant-loop-task : goal.invariant-loop-task
invariant-loop-task g l = GoesOn (g.N.Resolve.net_of l.names) (flat_map task_mentions (take l.task-index l.tasks)) l.initial.found l.found
