-- Meaning. What binding is answered with.
use Rattle.std.specs.Prelude.{◌≡◌, ℕ, List, map, Option, Result, Ok, Err}
use Rattle.ste_model.specs.declared.task.Tasks.{Tasks}
use Rattle.ste_model.specs.Trees.{task_tree}
use Rattle.assert_syntax.specs.declared.tasks.RawTasks.{RawTasks}
use Rattle.task_binding.specs.declared.fault.BindFault.{BindFault}
use Rattle.task_binding.specs.declared.fault.BindFault.TheVariants.{UnknownNode, TooLarge, OutOfMemory}
use Rattle.task_binding.specs.Bound.{net_by, task_bound}
use Rattle.task_binding.specs.Mentions.{AllNamed, IsFirstUnknown, mentions_of}
use Rattle.task_binding.specs.Sizes.{AllFit, IsFirstLarge}

-- the tasks are what is read, with the net that each name names in its place
abbrev pub IsBound : (List ℕ → Option ℕ) → RawTasks → Tasks → Type 0
IsBound net_of raw tasks =
    (tasks.vars ≡ raw.vars) × (map task_tree tasks.tasks
    ≡ map (task_bound (net_by net_of)) raw.tasks)

-- The answer over so many nets, where each text names a net or none: the tasks, bound; or the first
-- node that names no net; or, where each node names one, the first task that is too large; or want
-- of memory.
abbrev pub IsBindAnswer : (List ℕ → Option ℕ) → ℕ → RawTasks → Result Tasks BindFault → Type 0
IsBindAnswer net_of nets raw (Ok tasks) = AllNamed net_of (mentions_of raw.tasks)
    × AllFit nets raw.tasks × IsBound net_of raw tasks
IsBindAnswer net_of nets raw (Err (UnknownNode line name)) =
    IsFirstUnknown net_of (mentions_of raw.tasks) (record { line = line; node = name })
IsBindAnswer net_of nets raw (Err (TooLarge line)) = AllNamed net_of (mentions_of raw.tasks)
    × IsFirstLarge nets raw.tasks line
IsBindAnswer net_of nets raw (Err OutOfMemory) = Unit {0}
