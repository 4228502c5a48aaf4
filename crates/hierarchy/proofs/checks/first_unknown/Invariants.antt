use Rattle.std.proofs.Common.{◌≡◌, drop}
use Rattle.hierarchy.specs.Faults.{in_use, unknown_model}
use Rattle.hierarchy.specs.private.Checks.{first_fault_in}
use Rattle.hierarchy.proofs.checks.first_unknown.Given as goal

abbrev pub invariant-loop-at : goal.invariant-loop-at
invariant-loop-at l =
    first_fault_in (λ at. in_use (unknown_model l.names.keys) at.item) (drop l.at-index l.lines)
    ≡ first_fault_in (λ at. in_use (unknown_model l.names.keys) at.item) l.lines
