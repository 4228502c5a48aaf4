use Rattle.std.proofs.Common.{[], ◌∷◌, take}
use Rattle.std.specs.List.{flat_map}
use Rattle.task_binding.specs.Mentions.{quint_mention}
use Rattle.task_binding.specs.private.Leading.{GoesOn}
use Rattle.task_binding.proofs.unknown.in_quints.Given as goal

-- what is found so far
abbrev pub invariant-loop-quint : goal.invariant-loop-quint
invariant-loop-quint g l = GoesOn (g.N.Resolve.net_of l.names) (flat_map (λ x. quint_mention x ∷ []) (take l.quint-index l.quints)) l.initial.found l.found
