use Rattle.std.proofs.lemmas.Result.{on_ok_weaker}
use Rattle.hierarchy.specs.Faults.{HasTooDeep, HasTooManyNodes}
use Rattle.hierarchy.proofs.Refused.{else_free}
use Rattle.hierarchy.proofs.refusals.refuse_from_too_deep.Goals as goal

pub returns-clause-ok : goal.returns-clause-ok
returns-clause-ok c =
    on_ok_weaker c.refuse_too_many_nodes.result
    (else_free (HasTooDeep c.args.models.now) (HasTooManyNodes c.args.models.now) c.in_ok-refuse_too_deep.ensures.ok)
    c.refuse_too_many_nodes.ensures.ok
