use Rattle.clock_step.proofs.GivenBits.{nodes_are_given}
use Rattle.clock_step.proofs.laws.nodes_are_given.Goals as goal

pub returns : goal.returns
returns c = nodes_are_given
