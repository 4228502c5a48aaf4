use Rattle.std.proofs.lemmas.Result.{on_ok_weaker}
use Rattle.hierarchy.specs.Faults.{HasUnknownModel}
use Rattle.hierarchy.specs.private.Kinds.{FromRecursive}
use Rattle.hierarchy.proofs.Refused.{else_free}
use Rattle.hierarchy.proofs.refusals.refuse_from_unknown_model.Goals as goal

pub returns-clause-ok : goal.returns-clause-ok
returns-clause-ok c =
    on_ok_weaker c.refuse_from_recursive.result
    (else_free (HasUnknownModel c.args.models.now) (FromRecursive c.args.models.now) c.in_ok-refuse_unknown_models.ensures.ok)
    c.refuse_from_recursive.ensures.ok
