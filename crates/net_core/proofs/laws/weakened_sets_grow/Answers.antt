use Rattle.net_core.proofs.Weakened.{weakened_sets_grow}
use Rattle.net_core.proofs.laws.weakened_sets_grow.Goals as goal

pub returns : goal.returns
returns c = weakened_sets_grow
