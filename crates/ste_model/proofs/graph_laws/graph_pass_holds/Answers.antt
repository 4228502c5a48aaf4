use Rattle.ste_model.proofs.Paths.{graph_pass_holds}
use Rattle.ste_model.proofs.graph_laws.graph_pass_holds.Goals as goal

pub returns : goal.returns
returns c = graph_pass_holds
