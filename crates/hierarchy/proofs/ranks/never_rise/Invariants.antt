use Rattle.std.proofs.Common.{◌≤◌, ◌<◌, ℕ, [], get_or}
use Rattle.std.specs.Prelude.{All}
use Rattle.hierarchy.proofs.ranks.never_rise.Given as goal

abbrev pub invariant-loop-model : goal.invariant-loop-model
invariant-loop-model l = (k : ℕ) → k < l.model → All (λ j. get_or l.ranks j 0 ≤ get_or l.ranks k 0) (get_or l.graph k [])
