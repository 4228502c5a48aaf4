use Rattle.std.proofs.Common.{◌≡◌, ◌++◌, drop}
use Rattle.std.specs.Prelude.{filter_map}
use Rattle.hierarchy.specs.Lines.{use_lines, use_of}
use Rattle.instances.proofs.above.use_lines.Given as goal

abbrev pub invariant-loop-item : goal.invariant-loop-item
invariant-loop-item l = l.uses ++ filter_map use_of (drop l.item-index l.item-items) ≡ use_lines l.model
