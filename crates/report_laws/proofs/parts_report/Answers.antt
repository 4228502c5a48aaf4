use Rattle.report_laws.proofs.PartsReport.{parts_report}
use Rattle.report_laws.proofs.parts_report.Goals as goal

pub returns : goal.returns
returns c = parts_report
