use Rattle.std.proofs.Common.{◌≡◌, length, map, take}
use Rattle.hierarchy.specs.Lines.{use_lines}
use Rattle.net_names.proofs.names.all_uses.Given as goal

abbrev pub invariant-loop-model : goal.invariant-loop-model
invariant-loop-model l = l.uses.items ≡ map (λ model. length (use_lines model)) (take l.model-index l.models)
