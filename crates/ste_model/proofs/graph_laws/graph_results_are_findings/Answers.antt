use Rattle.ste_model.proofs.GraphWheres.{graph_results_are_findings}
use Rattle.ste_model.proofs.graph_laws.graph_results_are_findings.Goals as goal

pub returns : goal.returns
returns c = graph_results_are_findings
