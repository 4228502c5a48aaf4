use Rattle.std.proofs.Common.{◌≡◌, ◌++◌, drop, map}
use Rattle.hierarchy.specs.Lines.{needed_formals}
use Rattle.hierarchy.proofs.unbound.all_needed.Given as goal

abbrev pub invariant-loop-model : goal.invariant-loop-model
invariant-loop-model l = map (λ set. set.keys) l.sets.items ++ map needed_formals (drop l.model-index l.models) ≡ map needed_formals l.models
