use Rattle.std.proofs.Common.{◌≡◌, ◌++◌, drop, map}
use Rattle.hierarchy.specs.Reach.{used_by, uses}
use Rattle.hierarchy.proofs.uses.uses.Given as goal

abbrev pub invariant-loop-model : goal.invariant-loop-model
invariant-loop-model l = l.graph.items ++ map (used_by l.models) (drop l.model-index l.models) ≡ uses l.models
