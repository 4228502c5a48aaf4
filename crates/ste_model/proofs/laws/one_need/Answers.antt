use Rattle.ste_model.proofs.Needs.{one_need}
use Rattle.ste_model.proofs.laws.one_need.Goals as goal

pub returns : goal.returns
returns c = one_need
