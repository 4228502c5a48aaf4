use Rattle.std.proofs.Common.{◌≡◌, drop, false, get_or}
use Rattle.std.specs.List.{list_any}
use Rattle.hierarchy.proofs.depth.any_marked.Given as goal

abbrev pub invariant-loop-model : goal.invariant-loop-model
invariant-loop-model l = list_any (λ k. get_or l.marks k false) (drop l.model-index l.models) ≡ list_any (λ k. get_or l.marks k false) l.models
