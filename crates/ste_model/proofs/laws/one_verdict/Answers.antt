use Rattle.ste_model.proofs.Verdicts.{one_verdict}
use Rattle.ste_model.proofs.laws.one_verdict.Goals as goal

pub returns : goal.returns
returns c = one_verdict
