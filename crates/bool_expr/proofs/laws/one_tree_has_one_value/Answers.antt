use Rattle.bool_expr.proofs.Values.{one_tree_has_one_value}
use Rattle.bool_expr.proofs.laws.one_tree_has_one_value.Goals as goal

pub returns : goal.returns
returns c = one_tree_has_one_value
