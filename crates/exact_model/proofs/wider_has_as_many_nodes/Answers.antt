use Rattle.exact_model.proofs.MoreVariables.{wider_has_as_many_nodes}
use Rattle.exact_model.proofs.wider_has_as_many_nodes.Goals as goal

pub returns : goal.returns
returns c = wider_has_as_many_nodes
