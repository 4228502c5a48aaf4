use Rattle.std.proofs.Common.{[], ◌∷◌, take}
use Rattle.std.specs.List.{flat_map}
use Rattle.task_binding.specs.Mentions.{mark_mention}
use Rattle.task_binding.specs.private.Leading.{GoesOn}
use Rattle.task_binding.proofs.unknown.in_marks.Given as goal

-- what is found so far
abbrev pub invariant-loop-mark : goal.invariant-loop-mark
invariant-loop-mark g l =
    GoesOn (g.N.Resolve.net_of l.names) (flat_map (λ x. mark_mention x ∷ []) (take l.mark-index l.marks))
    l.initial.found l.found
