use Rattle.std.proofs.Common.{length}
use Rattle.gate_sets.proofs.by_halves.+sum_of.Given as goal

abbrev pub decreases-sum_of : goal.decreases-sum_of
decreases-sum_of g l = length l.inputs.now
