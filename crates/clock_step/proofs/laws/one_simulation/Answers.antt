use Rattle.clock_step.proofs.OneAnswer.{one_simulation}
use Rattle.clock_step.proofs.laws.one_simulation.Goals as goal

pub returns : goal.returns
returns c = one_simulation
