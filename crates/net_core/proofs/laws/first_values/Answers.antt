use Rattle.net_core.proofs.Starts.{first_values}
use Rattle.net_core.proofs.laws.first_values.Goals as goal

pub returns : goal.returns
returns c = first_values
