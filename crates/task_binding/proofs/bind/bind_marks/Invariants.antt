use Rattle.std.proofs.Common.{◌≡◌, ◌&&◌, map, take}
use Rattle.std.specs.List.{list_all}
use Rattle.task_binding.specs.Bound.{net_by, mark_bound}
use Rattle.task_binding.specs.private.Known.{mark_known}
use Rattle.task_binding.proofs.bind.bind_marks.Given as goal

-- those so far are bound, and it is known whether the nodes of each name nets
abbrev pub invariant-loop-mark : goal.invariant-loop-mark
invariant-loop-mark g l =
    let net_of = g.N.Resolve.net_of l.names in
    let before = take l.mark-index l.marks in
    (map (λ node. node.0) l.bound.items ≡ map (mark_bound (net_by net_of)) before)
    × (l.known ≡ (l.initial.known && list_all (mark_known net_of) before))
