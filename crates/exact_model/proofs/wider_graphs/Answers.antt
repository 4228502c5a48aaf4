use Rattle.exact_model.proofs.GraphFirst.{wider_graphs}
use Rattle.exact_model.proofs.wider_graphs.Goals as goal

pub returns : goal.returns
returns c = wider_graphs
