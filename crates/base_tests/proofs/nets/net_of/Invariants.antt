use Rattle.base_tests.proofs.Samples.{AreSampleGates}
use Rattle.base_tests.proofs.nets.net_of.Given as goal

abbrev pub invariant-loop-number : goal.invariant-loop-number
invariant-loop-number l = AreSampleGates l.count l.gates l.number
