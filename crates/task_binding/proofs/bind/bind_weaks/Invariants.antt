use Rattle.std.proofs.Common.{◌≡◌, ◌&&◌, map, take}
use Rattle.std.specs.List.{list_all}
use Rattle.ste_model.specs.Trees.{weak_tree}
use Rattle.task_binding.specs.Bound.{net_by, weak_bound}
use Rattle.task_binding.specs.private.Known.{weak_known}
use Rattle.task_binding.proofs.bind.bind_weaks.Given as goal

-- those so far are bound, and it is known whether the nodes of each name nets
abbrev pub invariant-loop-weak : goal.invariant-loop-weak
invariant-loop-weak g l =
    let net_of = g.N.Resolve.net_of l.names in
    let before = take l.weak-index l.weaks in
    (map weak_tree l.bound.items ≡ map (weak_bound (net_by net_of)) before)
    × (l.known ≡ (l.initial.known && list_all (weak_known net_of) before))
