use Rattle.std.proofs.Common.{◌≡◌, IfErr, OnOk, subst}
use Rattle.std.proofs.lemmas.Result.{IfErr-weaker, on_ok_weaker}
use Rattle.std.specs.Prelude.{◌⊎◌}
use Rattle.hierarchy.specs.declared.fault.NetFault.TheVariants.{OutOfMemory}
use Rattle.hierarchy.specs.Faults.{HasDoubleModel, IsFree, HasFaultBeforeInstances}
use Rattle.hierarchy.specs.private.Kinds.{FromUnknownModel}
use Rattle.hierarchy.proofs.Refused.{double_free, else_free, else_later}
use Rattle.hierarchy.proofs.refusals.refuse.Goals as goal

pub returns-clause-ok : goal.returns-clause-ok
returns-clause-ok c =
    let models = c.as_slice-models.result.now in
    subst (λ all. OnOk c.refuse_from_unknown_model.result (IsFree (HasFaultBeforeInstances all))) c.as_slice-models.ensures
    (on_ok_weaker c.refuse_from_unknown_model.result
    (else_free (HasDoubleModel models) (FromUnknownModel models) (double_free models c.in_ok-names.ensures.ok))
    c.refuse_from_unknown_model.ensures.ok)

pub returns-clause-err : goal.returns-clause-err
returns-clause-err c =
    let models = c.as_slice-models.result.now in
    subst (λ all. IfErr c.refuse_from_unknown_model.result (λ fault. (fault ≡ OutOfMemory) ⊎ HasFaultBeforeInstances all fault)) c.as_slice-models.ensures
    (IfErr-weaker c.refuse_from_unknown_model.result
    (λ fault. (fault ≡ OutOfMemory) ⊎ FromUnknownModel models fault)
    (λ fault. (fault ≡ OutOfMemory) ⊎ HasFaultBeforeInstances models fault)
    (else_later (HasDoubleModel models) (FromUnknownModel models) (double_free models c.in_ok-names.ensures.ok))
    c.refuse_from_unknown_model.ensures.err)
