use Rattle.aig_model.proofs.Runs.{corresponds}
use Rattle.aig_model.proofs.laws.literals_correspond.Goals as goal

pub returns : goal.returns
returns c = corresponds
