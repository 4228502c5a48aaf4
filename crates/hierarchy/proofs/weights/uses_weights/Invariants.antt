use Rattle.std.proofs.Common.{◌≡◌, ◌++◌, drop, map, min}
use Rattle.hierarchy.specs.private.Counts.{uses_weight}
use Rattle.hierarchy.proofs.weights.uses_weights.Given as goal

abbrev pub invariant-loop-model : goal.invariant-loop-model
invariant-loop-model l =
    l.own.items ++ map (λ model. min l.cap (uses_weight l.measure l.weights l.names.keys model)) (drop l.model-index l.models)
    ≡ map (λ model. min l.cap (uses_weight l.measure l.weights l.names.keys model)) l.models
