use Rattle.std.proofs.Common.{◌≡◌, ◌∙◌, inl, inr, sym}
use Rattle.std.proofs.lemmas.Result.{IfErr-weaker, on_ok_weaker}
use Rattle.std.specs.Prelude.{◌⊎◌}
use Rattle.hierarchy.specs.declared.fault.NetFault.TheVariants.{OutOfMemory}
use Rattle.hierarchy.specs.Faults.{HasRecursive, IsRecursive}
use Rattle.hierarchy.specs.private.Checks.{FirstIn}
use Rattle.hierarchy.proofs.Marked.{is_first, is_free}
use Rattle.hierarchy.proofs.Refused.{shallow_free}
use Rattle.hierarchy.proofs.circles.refuse_recursive.Goals as goal

pub returns-then-not-deep-clause-ok : goal.returns-then-not-deep-clause-ok
returns-then-not-deep-clause-ok c =
    shallow_free c.args.models.now (sym c.requires.deep ∙ c.if-not-deep.true)

pub returns-clause-ok : goal.returns-clause-ok
returns-clause-ok c =
    on_ok_weaker c.first_recursive.result (is_free (IsRecursive c.args.models.now) c.args.models.now c.args.lines.now c.requires.lines) c.first_recursive.ensures.ok

pub returns-clause-err : goal.returns-clause-err
returns-clause-err c =
    IfErr-weaker c.first_recursive.result
    (λ fault. (fault ≡ OutOfMemory) ⊎ FirstIn (λ at its. IsRecursive c.args.models.now at.number at.item its) c.args.lines.now fault)
    (λ fault. (fault ≡ OutOfMemory) ⊎ HasRecursive c.args.models.now fault)
    (λ fault h. elim h as (λ _. (fault ≡ OutOfMemory) ⊎ HasRecursive c.args.models.now fault) [
      | inl wanting ↦ inl wanting
      | inr first ↦ inr (is_first (IsRecursive c.args.models.now) c.args.models.now c.args.lines.now c.requires.lines fault first)
    ])
    c.first_recursive.ensures.err
