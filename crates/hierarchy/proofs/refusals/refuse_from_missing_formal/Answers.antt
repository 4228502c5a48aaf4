use Rattle.std.proofs.lemmas.Result.{on_ok_weaker}
use Rattle.hierarchy.specs.Faults.{HasMissingFormal}
use Rattle.hierarchy.specs.private.Kinds.{FromGateTooWide}
use Rattle.hierarchy.proofs.Refused.{else_free}
use Rattle.hierarchy.proofs.refusals.refuse_from_missing_formal.Goals as goal

pub returns-clause-ok : goal.returns-clause-ok
returns-clause-ok c =
    on_ok_weaker c.refuse_from_gate_too_wide.result
    (else_free (HasMissingFormal c.args.models.now) (FromGateTooWide c.args.models.now) c.in_ok-refuse_missing_formals.ensures.ok)
    c.refuse_from_gate_too_wide.ensures.ok
