use Rattle.ste_model.proofs.Weakened.{weakened_grow}
use Rattle.ste_model.proofs.graph_laws.weakened_grow.Goals as goal

pub returns : goal.returns
returns c = weakened_grow
