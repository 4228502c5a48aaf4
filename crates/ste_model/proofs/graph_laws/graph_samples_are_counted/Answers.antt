use Rattle.ste_model.proofs.GraphCounted.{graph_samples_are_counted}
use Rattle.ste_model.proofs.graph_laws.graph_samples_are_counted.Goals as goal

pub returns : goal.returns
returns c = graph_samples_are_counted
