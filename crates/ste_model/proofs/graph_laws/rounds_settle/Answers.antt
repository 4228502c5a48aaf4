use Rattle.ste_model.proofs.NextRound.{rounds_settle}
use Rattle.ste_model.proofs.graph_laws.rounds_settle.Goals as goal

pub returns : goal.returns
returns c = rounds_settle
