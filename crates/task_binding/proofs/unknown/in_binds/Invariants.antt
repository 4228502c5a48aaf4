use Rattle.std.proofs.Common.{[], ◌∷◌, take}
use Rattle.std.specs.List.{flat_map}
use Rattle.task_binding.specs.Mentions.{bind_mention}
use Rattle.task_binding.specs.private.Leading.{GoesOn}
use Rattle.task_binding.proofs.unknown.in_binds.Given as goal

-- what is found so far
abbrev pub invariant-loop-bind : goal.invariant-loop-bind
invariant-loop-bind g l = GoesOn (g.N.Resolve.net_of l.names) (flat_map (λ x. bind_mention x ∷ []) (take l.bind-index l.binds)) l.initial.found l.found
