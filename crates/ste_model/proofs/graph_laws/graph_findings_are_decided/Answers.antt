use Rattle.ste_model.proofs.GraphVerdicts.{graph_findings_are_decided}
use Rattle.ste_model.proofs.graph_laws.graph_findings_are_decided.Goals as goal

pub returns : goal.returns
returns c = graph_findings_are_decided
