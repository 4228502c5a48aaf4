use Rattle.std.proofs.Common.{◌+◌, ◌*◌}
use Rattle.gate_sets.proofs.by_table.+halving.Given as goal

abbrev pub decreases-sum_of : goal.decreases-sum_of
decreases-sum_of g l = 2 * l.depth + 1

abbrev pub decreases-sum_at : goal.decreases-sum_at
decreases-sum_at g l = 2 * l.depth
