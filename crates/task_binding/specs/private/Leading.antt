-- For private functions. The first node that names no net, among those looked at so far.
use Rattle.std.specs.Prelude.{ℕ, ◌++◌, List, Option, Some, None}
use Rattle.task_binding.specs.declared.unknown.Mention.{Mention}
use Rattle.assert_syntax.specs.declared.tasks.RawTask.{RawTask}
use Rattle.task_binding.specs.Mentions.{AllNamed, IsFirstUnknown}
use Rattle.task_binding.specs.Sizes.{AllFit, IsFirstLarge}

-- this is the first that names no net, or there is none
abbrev pub Leads : (List ℕ → Option ℕ) → List Mention → Option Mention → Type 0
Leads net_of mentions None = AllNamed net_of mentions
Leads net_of mentions (Some mention) = IsFirstUnknown net_of mentions mention

-- what was found before and what is found with these mentions more
abbrev pub GoesOn : (List ℕ → Option ℕ) → List Mention → Option Mention → Option Mention → Type 0
GoesOn net_of more before found = (mentions : List Mention) → Leads net_of mentions before →
    Leads net_of (mentions ++ more) found

-- what is found of the sizes
abbrev pub IsLarge : ℕ → List RawTask → Option ℕ → Type 0
IsLarge nets tasks None = AllFit nets tasks
IsLarge nets tasks (Some line) = IsFirstLarge nets tasks line
