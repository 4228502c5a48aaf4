use Rattle.ste_model.proofs.HopRoutes.{paths_are_shown}
use Rattle.ste_model.proofs.graph_laws.paths_are_shown.Goals as goal

pub returns : goal.returns
returns c = paths_are_shown
