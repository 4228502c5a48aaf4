use Rattle.std.proofs.Common.{◌≡◌, [], drop, map}
use Rattle.hierarchy.specs.Faults.{bad_formal}
use Rattle.hierarchy.proofs.formals.refuse_bad_formal.Given as goal

abbrev pub invariant-loop-binding : goal.invariant-loop-binding
invariant-loop-binding l =
    bad_formal l.formals.keys l.bound.keys (map (λ binding. binding.0) (drop l.binding-index l.used.bindings))
    ≡ bad_formal l.formals.keys [] (map (λ binding. binding.0) l.used.bindings)
