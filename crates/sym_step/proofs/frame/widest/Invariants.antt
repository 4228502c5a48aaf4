use Rattle.std.proofs.Common.{◌≤◌, take, length, All}
use Rattle.sym_step.proofs.frame.widest.Given as goal

-- none of the first gates has more inputs
abbrev pub invariant-loop-gate : goal.invariant-loop-gate
invariant-loop-gate l = All (λ gate. length gate.inputs ≤ l.most) (take l.gate-index l.gates)
