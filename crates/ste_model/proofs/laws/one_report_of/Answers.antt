use Rattle.ste_model.proofs.Reports.{one_report_of}
use Rattle.ste_model.proofs.laws.one_report_of.Goals as goal

pub returns : goal.returns
returns c = one_report_of
