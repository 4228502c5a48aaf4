use Rattle.std.proofs.Common.{◌≡◌, ◌&&◌, map, take}
use Rattle.std.specs.List.{list_all}
use Rattle.ste_model.specs.Trees.{edge_tree}
use Rattle.task_binding.specs.Bound.{net_by, edge_bound}
use Rattle.task_binding.specs.private.Known.{edge_known}
use Rattle.task_binding.proofs.bind.bind_edges.Given as goal

-- those so far are bound, and it is known whether the nodes of each name nets
abbrev pub invariant-loop-edge : goal.invariant-loop-edge
invariant-loop-edge g l =
    (map edge_tree l.bound.items ≡ map (edge_bound (net_by (g.N.Resolve.net_of l.names))) (take l.edge-index l.edges))
    × (l.known ≡ (l.initial.known && list_all (edge_known (g.N.Resolve.net_of l.names)) (take l.edge-index l.edges)))
