use Rattle.exact_model.proofs.ExactReports.{exact_failure_breaks}
use Rattle.exact_model.proofs.exact_failure_breaks.Goals as goal

pub returns : goal.returns
returns c = exact_failure_breaks
