use Rattle.ste_model.proofs.Leasts.{one_least}
use Rattle.ste_model.proofs.set_laws.one_least.Goals as goal

pub returns : goal.returns
returns c = one_least
