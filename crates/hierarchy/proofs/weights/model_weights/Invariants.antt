use Rattle.std.proofs.Common.{◌≡◌, ◌++◌, drop, map}
use Rattle.hierarchy.specs.private.Counts.{kept_weight}
use Rattle.hierarchy.proofs.weights.model_weights.Given as goal

abbrev pub invariant-loop-model : goal.invariant-loop-model
invariant-loop-model l =
    l.weights.items ++ map (kept_weight l.measure l.cap) (drop l.model-index l.models) ≡ map (kept_weight l.measure l.cap) l.models
