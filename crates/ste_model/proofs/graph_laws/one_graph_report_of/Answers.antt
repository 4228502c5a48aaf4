use Rattle.ste_model.proofs.GraphReports.{one_graph_report_of}
use Rattle.ste_model.proofs.graph_laws.one_graph_report_of.Goals as goal

pub returns : goal.returns
returns c = one_graph_report_of
