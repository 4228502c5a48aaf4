use Rattle.ste_model.proofs.NextRound.{one_least_closed}
use Rattle.ste_model.proofs.graph_laws.one_least_closed.Goals as goal

pub returns : goal.returns
returns c = one_least_closed
