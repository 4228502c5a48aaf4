use Rattle.std.proofs.Common.{[], ◌∷◌, take}
use Rattle.std.specs.List.{flat_map}
use Rattle.task_binding.specs.Mentions.{weak_mention}
use Rattle.task_binding.specs.private.Leading.{GoesOn}
use Rattle.task_binding.proofs.unknown.in_weaks.Given as goal

-- what is found so far
abbrev pub invariant-loop-weak : goal.invariant-loop-weak
invariant-loop-weak g l =
    GoesOn (g.N.Resolve.net_of l.names) (flat_map (λ x. weak_mention x ∷ []) (take l.weak-index l.weaks))
    l.initial.found l.found
