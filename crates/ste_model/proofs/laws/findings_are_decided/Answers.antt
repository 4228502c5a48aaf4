use Rattle.ste_model.proofs.Verdicts.{findings_are_decided}
use Rattle.ste_model.proofs.laws.findings_are_decided.Goals as goal

pub returns : goal.returns
returns c = findings_are_decided
