use Rattle.clock_step.proofs.Doubles.{first_double_is_least}
use Rattle.clock_step.proofs.laws.first_double_is_least.Goals as goal

pub returns : goal.returns
returns c = first_double_is_least
