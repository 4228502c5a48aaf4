use Rattle.std.proofs.Common.{◌≡◌, ◌&&◌, map, take}
use Rattle.std.specs.List.{list_all}
use Rattle.ste_model.specs.Trees.{bind_tree}
use Rattle.task_binding.specs.Bound.{net_by, bind_bound}
use Rattle.task_binding.specs.private.Known.{bind_known}
use Rattle.task_binding.proofs.bind.bind_edge_clauses.Given as goal

-- those so far are bound, and it is known whether the nodes of each name nets
abbrev pub invariant-loop-bind : goal.invariant-loop-bind
invariant-loop-bind g l =
    (map bind_tree l.bound.items ≡ map (bind_bound (net_by (g.N.Resolve.net_of l.names))) (take l.bind-index l.binds))
    × (l.known ≡ (l.initial.known && list_all (bind_known (g.N.Resolve.net_of l.names)) (take l.bind-index l.binds)))
