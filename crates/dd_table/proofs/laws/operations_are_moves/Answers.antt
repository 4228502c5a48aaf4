use Rattle.dd_table.proofs.Moves.{operations}
use Rattle.dd_table.proofs.laws.operations_are_moves.Goals as goal

pub returns : goal.returns
returns c = operations
