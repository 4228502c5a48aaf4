use Rattle.std.proofs.lemmas.Result.{on_ok_weaker}
use Rattle.hierarchy.specs.Faults.{HasGateTooWide}
use Rattle.hierarchy.specs.private.Kinds.{FromTooDeep}
use Rattle.hierarchy.proofs.Refused.{else_free}
use Rattle.hierarchy.proofs.refusals.refuse_from_gate_too_wide.Goals as goal

pub returns-clause-ok : goal.returns-clause-ok
returns-clause-ok c =
    on_ok_weaker c.refuse_from_too_deep.result
    (else_free (HasGateTooWide c.args.models.now) (FromTooDeep c.args.models.now) c.in_ok-refuse_wide_gates.ensures.ok)
    c.refuse_from_too_deep.ensures.ok
