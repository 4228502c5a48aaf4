use Rattle.ste_model.proofs.GraphVerdicts.{one_graph_verdict}
use Rattle.ste_model.proofs.graph_laws.one_graph_verdict.Goals as goal

pub returns : goal.returns
returns c = one_graph_verdict
