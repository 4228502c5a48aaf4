use Rattle.exact_model.proofs.ExactNeeds.{one_exact_need}
use Rattle.exact_model.proofs.one_exact_need.Goals as goal

pub returns : goal.returns
returns c = one_exact_need
