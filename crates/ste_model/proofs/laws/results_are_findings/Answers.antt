use Rattle.ste_model.proofs.Wheres.{results_are_findings}
use Rattle.ste_model.proofs.laws.results_are_findings.Goals as goal

pub returns : goal.returns
returns c = results_are_findings
