use Rattle.ste_model.proofs.GraphNeeds.{one_graph_need}
use Rattle.ste_model.proofs.graph_laws.one_graph_need.Goals as goal

pub returns : goal.returns
returns c = one_graph_need
