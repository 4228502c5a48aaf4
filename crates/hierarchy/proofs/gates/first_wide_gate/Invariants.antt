use Rattle.std.proofs.Common.{◌≡◌, drop}
use Rattle.hierarchy.specs.private.Checks.{first_fault_in}
use Rattle.hierarchy.specs.private.Kinds.{wide_gate}
use Rattle.hierarchy.proofs.gates.first_wide_gate.Given as goal

abbrev pub invariant-loop-at : goal.invariant-loop-at
invariant-loop-at l =
    first_fault_in (λ at. wide_gate at.item) (drop l.at-index l.lines) ≡ first_fault_in (λ at. wide_gate at.item) l.lines
