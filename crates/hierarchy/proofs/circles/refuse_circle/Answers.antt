use Rattle.std.proofs.Common.{◌<◌, ℕ, List, length, get_or, sym, subst}
use Rattle.hierarchy.proofs.Refused.{uses_low}
use Rattle.hierarchy.proofs.circles.refuse_circle.Goals as goal

pub reached_marks-requires-clause-in_range : goal.reached_marks-requires-clause-in_range
reached_marks-requires-clause-in_range c =
    subst (λ graph. (k : ℕ) (d : List ℕ) → k < length graph → (j e : ℕ) → j < length (get_or graph k d) → get_or (get_or graph k d) j e < length graph)
    (sym c.requires.graph) (uses_low c.args.models.now)
