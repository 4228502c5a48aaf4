use Rattle.std.proofs.Common.{◌≡◌, ◌++◌, drop}
use Rattle.hierarchy.specs.private.Checks.{marked_from, marked_items}
use Rattle.hierarchy.proofs.checks.marked_items.Given as goal

abbrev pub invariant-loop-number : goal.invariant-loop-number
invariant-loop-number l = l.lines.items ++ marked_from l.marks l.number (drop l.number l.models) ≡ marked_items l.marks l.models
