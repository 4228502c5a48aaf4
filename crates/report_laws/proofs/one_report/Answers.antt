use Rattle.report_laws.proofs.OneReport.{one_report}
use Rattle.report_laws.proofs.one_report.Goals as goal

pub returns : goal.returns
returns c = one_report
