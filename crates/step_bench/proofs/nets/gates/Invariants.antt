use Rattle.step_bench.specs.Made.{AreGates}
use Rattle.step_bench.proofs.nets.gates.Given as goal

abbrev pub invariant-loop-k : goal.invariant-loop-k
invariant-loop-k l = AreGates l.k l.gates
