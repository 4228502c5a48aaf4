use Rattle.std.proofs.lemmas.Result.{on_ok_weaker}
use Rattle.hierarchy.specs.Faults.{HasBadFormal}
use Rattle.hierarchy.specs.private.Kinds.{FromMissingFormal}
use Rattle.hierarchy.proofs.Refused.{else_free}
use Rattle.hierarchy.proofs.refusals.refuse_from_bad_formal.Goals as goal

pub returns-clause-ok : goal.returns-clause-ok
returns-clause-ok c =
    on_ok_weaker c.refuse_from_missing_formal.result
    (else_free (HasBadFormal c.args.models.now) (FromMissingFormal c.args.models.now) c.in_ok-refuse_bad_formals.ensures.ok)
    c.refuse_from_missing_formal.ensures.ok
