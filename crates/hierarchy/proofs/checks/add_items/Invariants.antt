use Rattle.std.proofs.Common.{◌≡◌, ◌++◌, drop, map}
use Rattle.hierarchy.specs.private.Checks.{item_at}
use Rattle.hierarchy.proofs.checks.add_items.Given as goal

abbrev pub invariant-loop-item : goal.invariant-loop-item
invariant-loop-item l =
    l.lines.items ++ map (item_at l.number) (drop l.item-index l.items) ≡ l.initial.lines.items ++ map (item_at l.number) l.items
