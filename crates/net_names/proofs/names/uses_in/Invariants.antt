use Rattle.std.proofs.Common.{◌≡◌, ◌≤◌, ◌+◌, drop, length}
use Rattle.std.specs.Prelude.{filter_map}
use Rattle.hierarchy.specs.Lines.{use_lines, use_of}
use Rattle.net_names.proofs.names.uses_in.Given as goal

-- the items that are left decide
abbrev pub invariant-loop-item : goal.invariant-loop-item
invariant-loop-item l = (l.count ≤ l.item-index) × (l.count + length (filter_map use_of (drop l.item-index l.item-items)) ≡ length (use_lines l.model))
