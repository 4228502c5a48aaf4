use Rattle.std.proofs.Common.{◌≡◌, Some}
use Rattle.std.proofs.lemmas.Result.{IfErr-weaker, on_ok_weaker}
use Rattle.std.specs.Prelude.{◌⊎◌}
use Rattle.hierarchy.specs.declared.fault.NetFault.TheVariants.{OutOfMemory}
use Rattle.hierarchy.specs.Faults.{HasGateTooWide}
use Rattle.hierarchy.specs.private.Checks.{first_fault_in}
use Rattle.hierarchy.specs.private.Kinds.{wide_gate}
use Rattle.hierarchy.proofs.Wide.{lines_covered, wide_first, wide_free}
use Rattle.hierarchy.proofs.gates.refuse_wide_gates.Goals as goal

pub first_wide_gate-requires : goal.first_wide_gate-requires
first_wide_gate-requires c = lines_covered c.args.models.now c.args.lines.now c.requires.covered c.requires.lines

pub returns-clause-ok : goal.returns-clause-ok
returns-clause-ok c =
    on_ok_weaker c.first_wide_gate.result (wide_free c.args.models.now c.args.lines.now c.requires.lines) c.first_wide_gate.ensures.ok

pub returns-clause-err : goal.returns-clause-err
returns-clause-err c =
    IfErr-weaker c.first_wide_gate.result
    (λ fault. (fault ≡ OutOfMemory) ⊎ (first_fault_in (λ at. wide_gate at.item) c.args.lines.now ≡ Some fault))
    (λ fault. (fault ≡ OutOfMemory) ⊎ HasGateTooWide c.args.models.now fault)
    (wide_first c.args.models.now c.args.lines.now c.requires.lines)
    c.first_wide_gate.ensures.err
