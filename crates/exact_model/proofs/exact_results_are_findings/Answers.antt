use Rattle.exact_model.proofs.ExactFindings.{exact_results_are_findings}
use Rattle.exact_model.proofs.exact_results_are_findings.Goals as goal

pub returns : goal.returns
returns c = exact_results_are_findings
