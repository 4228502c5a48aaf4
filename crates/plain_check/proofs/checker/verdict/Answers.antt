use Rattle.std.proofs.Common.{◌∙◌, ap, sym, subst}
use Rattle.net_core.proofs.Ordered.{settled_by_order}
use Rattle.ste_model.specs.Found.{IsVerdictOf}
use Rattle.plain_check.specs.private.Outcome.{verdict_of}
use Rattle.plain_check.proofs.Verdicts.{verdict_is}
use Rattle.plain_check.proofs.checker.verdict.Goals as goal

pub returns : goal.returns
returns c =
    let net = c.args.net.now in
    subst (IsVerdictOf net.raw c.args.vars c.args.task.now) (sym (c.verdict_of.ensures ∙ ap verdict_of c.deref.ensures.value))
    (verdict_is net.raw c.args.task.now (settled_by_order net.raw net.settled net.in_order) c.args.vars c.in_ok-outcomes.field-0.items c.in_ok-outcomes.ensures)
