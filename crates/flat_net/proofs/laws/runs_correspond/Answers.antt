use Rattle.flat_net.proofs.OneToOne.{corresponds}
use Rattle.flat_net.proofs.laws.runs_correspond.Goals as goal

pub returns : goal.returns
returns c = corresponds
