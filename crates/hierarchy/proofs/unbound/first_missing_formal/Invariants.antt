use Rattle.std.proofs.Common.{◌≡◌, drop}
use Rattle.hierarchy.specs.Faults.{missing_formal_of, in_use}
use Rattle.hierarchy.specs.private.Checks.{first_fault_in}
use Rattle.hierarchy.proofs.unbound.first_missing_formal.Given as goal

abbrev pub invariant-loop-at : goal.invariant-loop-at
invariant-loop-at l =
    first_fault_in (λ at. in_use (missing_formal_of l.models) at.item) (drop l.at-index l.lines)
    ≡ first_fault_in (λ at. in_use (missing_formal_of l.models) at.item) l.lines
