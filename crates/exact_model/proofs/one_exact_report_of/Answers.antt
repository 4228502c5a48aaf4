use Rattle.exact_model.proofs.ExactReports.{one_exact_report_of}
use Rattle.exact_model.proofs.one_exact_report_of.Goals as goal

pub returns : goal.returns
returns c = one_exact_report_of
