use Rattle.std.proofs.Common.{◌≡◌, Some, subst}
use Rattle.std.proofs.lemmas.Result.{IfErr-weaker, on_ok_weaker}
use Rattle.std.specs.Prelude.{◌⊎◌}
use Rattle.hierarchy.specs.declared.fault.NetFault.TheVariants.{OutOfMemory}
use Rattle.hierarchy.specs.Faults.{HasUnknownModel, IsFirstOfKind, IsFree, in_use, unknown_model}
use Rattle.hierarchy.specs.private.Checks.{first_fault_in}
use Rattle.hierarchy.proofs.Marked.{check_first, check_free}
use Rattle.hierarchy.proofs.checks.refuse_unknown_models.Goals as goal

pub returns-clause-ok : goal.returns-clause-ok
returns-clause-ok c =
    on_ok_weaker c.first_unknown.result
    (λ none. subst (λ names. IsFree (IsFirstOfKind c.args.models.now (λ number item its. in_use (unknown_model names) item ≡ Some its))) c.requires.names
    (check_free (in_use (unknown_model c.args.names.now.keys)) c.args.models.now c.args.lines.now c.requires.lines none))
    c.first_unknown.ensures.ok

pub returns-clause-err : goal.returns-clause-err
returns-clause-err c =
    IfErr-weaker c.first_unknown.result
    (λ fault. (fault ≡ OutOfMemory) ⊎ (first_fault_in (λ at. in_use (unknown_model c.args.names.now.keys) at.item) c.args.lines.now ≡ Some fault))
    (λ fault. (fault ≡ OutOfMemory) ⊎ HasUnknownModel c.args.models.now fault)
    (λ fault h. subst (λ names. (fault ≡ OutOfMemory) ⊎ IsFirstOfKind c.args.models.now (λ number item its. in_use (unknown_model names) item ≡ Some its) fault) c.requires.names
    (check_first (in_use (unknown_model c.args.names.now.keys)) c.args.models.now c.args.lines.now c.requires.lines fault h))
    c.first_unknown.ensures.err
