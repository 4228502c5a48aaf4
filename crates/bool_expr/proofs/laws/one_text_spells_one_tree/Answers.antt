use Rattle.bool_expr.proofs.Answered.{one_tree}
use Rattle.bool_expr.proofs.laws.one_text_spells_one_tree.Goals as goal

pub returns : goal.returns
returns c = one_tree
