use Rattle.std.proofs.Common.{◌≡◌, ◌&&◌, map, take}
use Rattle.std.specs.List.{list_all}
use Rattle.ste_model.specs.Trees.{quint_tree}
use Rattle.task_binding.specs.Bound.{net_by, quint_bound}
use Rattle.task_binding.specs.private.Known.{quint_known}
use Rattle.task_binding.proofs.bind.bind_quints.Given as goal

-- those so far are bound, and it is known whether the nodes of each name nets
abbrev pub invariant-loop-quint : goal.invariant-loop-quint
invariant-loop-quint g l =
    (map quint_tree l.bound.items ≡ map (quint_bound (net_by (g.N.Resolve.net_of l.names))) (take l.quint-index l.quints))
    × (l.known ≡ (l.initial.known && list_all (quint_known (g.N.Resolve.net_of l.names)) (take l.quint-index l.quints)))
