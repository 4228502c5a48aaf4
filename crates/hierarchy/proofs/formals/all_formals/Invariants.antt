use Rattle.std.proofs.Common.{◌≡◌, ◌++◌, drop, map}
use Rattle.hierarchy.specs.Lines.{formals_of}
use Rattle.hierarchy.proofs.formals.all_formals.Given as goal

abbrev pub invariant-loop-model : goal.invariant-loop-model
invariant-loop-model l = map (λ set. set.keys) l.sets.items ++ map formals_of (drop l.model-index l.models) ≡ map formals_of l.models
