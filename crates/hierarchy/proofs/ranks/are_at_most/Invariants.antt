use Rattle.std.proofs.Common.{◌≤◌, ◌<◌, ℕ, get_or}
use Rattle.hierarchy.proofs.ranks.are_at_most.Given as goal

abbrev pub invariant-loop-model : goal.invariant-loop-model
invariant-loop-model l = (i d : ℕ) → i < l.model-index → get_or l.ranks (get_or l.models i d) 0 ≤ l.most
