use Rattle.blif_syntax.proofs.Tied.{first_is_least}
use Rattle.blif_syntax.proofs.laws.first_fault_is_least.Goals as goal

pub returns : goal.returns
returns c = first_is_least
