use Rattle.std.proofs.Common.{◌+◌, Bool, List, sym, subst, take}
use Rattle.std.specs.List.{AllZip}
use Rattle.plain_check.specs.declared.found.Outcome.{Outcome}
use Rattle.plain_check.specs.private.Outcome.{IsOutcome}
use Rattle.plain_check.proofs.Verdicts.{zip_more}
use Rattle.plain_check.proofs.checker.outcomes.Goals as goal

pub loop-bits-preserved : goal.loop-bits-preserved
loop-bits-preserved c =
    let R = IsOutcome c.args.net.now.raw c.args.task.now in
    let here = subst (λ (bits : List Bool). IsOutcome c.args.net.now.raw c.args.task.now bits c.in_ok-outcome.field-0) c.as_slice.ensures c.in_ok-outcome.ensures in
    subst (λ (outcomes : List Outcome). AllZip R (take (c.loop-bits.bits-index + 1) c.deref-bits-items.result.now) outcomes) (sym c.in_ok-push.ensures.items)
    (zip_more R c.deref-bits-items.result.now c.loop-bits.outcomes.items c.loop-bits.bits-index c.bits-item.result c.in_ok-outcome.field-0 c.loop-bits-test.true c.bits-item.is c.loop-bits.invariant here)
