use Rattle.std.proofs.Common.{◌≡◌, Some}
use Rattle.std.proofs.lemmas.Result.{IfErr-weaker, on_ok_weaker}
use Rattle.std.specs.Prelude.{◌⊎◌}
use Rattle.hierarchy.specs.declared.fault.NetFault.TheVariants.{OutOfMemory}
use Rattle.hierarchy.specs.Faults.{HasMissingFormal, missing_formal_of, in_use}
use Rattle.hierarchy.specs.private.Checks.{first_fault_in}
use Rattle.hierarchy.proofs.Marked.{check_first, check_free}
use Rattle.hierarchy.proofs.unbound.refuse_missing_formals.Goals as goal

pub returns-clause-ok : goal.returns-clause-ok
returns-clause-ok c =
    on_ok_weaker c.first_missing_formal.result
    (check_free (in_use (missing_formal_of c.args.models.now)) c.args.models.now c.args.lines.now c.requires.lines)
    c.first_missing_formal.ensures.ok

pub returns-clause-err : goal.returns-clause-err
returns-clause-err c =
    IfErr-weaker c.first_missing_formal.result
    (λ fault. (fault ≡ OutOfMemory) ⊎ (first_fault_in (λ at. in_use (missing_formal_of c.args.models.now) at.item) c.args.lines.now ≡ Some fault))
    (λ fault. (fault ≡ OutOfMemory) ⊎ HasMissingFormal c.args.models.now fault)
    (check_first (in_use (missing_formal_of c.args.models.now)) c.args.models.now c.args.lines.now c.requires.lines)
    c.first_missing_formal.ensures.err
