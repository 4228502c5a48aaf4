use Rattle.std.proofs.Common.{◌≡◌, ◌++◌, drop, map}
use Rattle.hierarchy.specs.Lines.{use_lines}
use Rattle.instances.proofs.numbers.all_uses.Given as goal

abbrev pub invariant-loop-model : goal.invariant-loop-model
invariant-loop-model l = l.uses.items ++ map use_lines (drop l.model-index l.models) ≡ map use_lines l.models
