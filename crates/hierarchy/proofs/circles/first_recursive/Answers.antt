use Rattle.std.proofs.Common.{◌≡◌, inl, inr}
use Rattle.std.specs.Prelude.{◌⊎◌}
use Rattle.hierarchy.specs.declared.fault.NetFault.TheVariants.{OutOfMemory}
use Rattle.hierarchy.specs.Faults.{IsRecursive}
use Rattle.hierarchy.specs.private.Checks.{FirstIn}
use Rattle.hierarchy.proofs.Marked.{one_clean, one_faulty, one_passed}
use Rattle.hierarchy.proofs.circles.first_recursive.Goals as goal

pub returns-in-Err-clause-err : goal.returns-in-Err-clause-err
returns-in-Err-clause-err c =
    elim c.in-Err.ensures.err as (λ _. (c.in-Err.fault ≡ OutOfMemory) ⊎ FirstIn (λ at its. IsRecursive c.args.models.now at.number at.item its) c.args.lines.now c.in-Err.fault) [
      | inl wanting ↦ inl wanting
      | inr faulty ↦ inr (one_faulty (λ at its. IsRecursive c.args.models.now at.number at.item its) c.args.lines.now c.loop-at.at-index c.at-item.result
          c.loop-at-test.true c.at-item.is c.in-Err.fault faulty c.loop-at.invariant.first)
    ]

pub loop-at-preserved : goal.loop-at-preserved
loop-at-preserved c = record {
  none = one_clean (λ at its. IsRecursive c.args.models.now at.number at.item its) c.args.lines.now c.loop-at.at-index c.at-item.result
      c.loop-at-test.true c.at-item.is c.in_default.ensures.ok c.loop-at.invariant.none;
  first = one_passed (λ at its. IsRecursive c.args.models.now at.number at.item its) c.args.lines.now c.loop-at.at-index c.at-item.result
      c.loop-at-test.true c.at-item.is c.in_default.ensures.ok c.loop-at.invariant.first;
}
