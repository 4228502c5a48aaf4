use Rattle.aig_model.proofs.NetLiterals.{nets_have_literals}
use Rattle.aig_model.proofs.laws.nets_have_literals.Goals as goal

pub returns : goal.returns
returns c = nets_have_literals
