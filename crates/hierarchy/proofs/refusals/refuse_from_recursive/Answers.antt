use Rattle.std.proofs.lemmas.Result.{on_ok_weaker}
use Rattle.hierarchy.specs.Faults.{HasRecursive}
use Rattle.hierarchy.specs.private.Depth.{has_steps}
use Rattle.hierarchy.specs.private.Kinds.{FromBadFormal}
use Rattle.std.proofs.Common.{◌<◌, ℕ, List, length, get_or, ap, ◌∙◌, sym, subst}
use Rattle.hierarchy.proofs.Refused.{else_free, uses_low}
use Rattle.hierarchy.proofs.refusals.refuse_from_recursive.Goals as goal

pub is_deep-requires-clause-in_range : goal.is_deep-requires-clause-in_range
is_deep-requires-clause-in_range c =
    subst (λ graph. (k : ℕ) (d : List ℕ) → k < length graph → (j e : ℕ) → j < length (get_or graph k d) → get_or (get_or graph k d) j e < length graph)
    (sym c.requires.graph) (uses_low c.args.models.now)

pub refuse_recursive-requires-clause-deep : goal.refuse_recursive-requires-clause-deep
refuse_recursive-requires-clause-deep c = c.in_ok-deep.ensures ∙ ap (λ graph. has_steps graph 65 0) c.requires.graph

pub refuse_from_bad_formal-requires-clause-deep : goal.refuse_from_bad_formal-requires-clause-deep
refuse_from_bad_formal-requires-clause-deep c = c.in_ok-deep.ensures ∙ ap (λ graph. has_steps graph 65 0) c.requires.graph

pub returns-clause-ok : goal.returns-clause-ok
returns-clause-ok c =
    on_ok_weaker c.refuse_from_bad_formal.result
    (else_free (HasRecursive c.args.models.now) (FromBadFormal c.args.models.now) c.in_ok-refuse_recursive.ensures.ok)
    c.refuse_from_bad_formal.ensures.ok
