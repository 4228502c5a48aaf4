use Rattle.bool_expr.proofs.Full.{trees_are_full}
use Rattle.bool_expr.proofs.laws.trees_are_full.Goals as goal

pub returns : goal.returns
returns c = trees_are_full
