use Rattle.ste_model.proofs.Counted.{samples_are_counted}
use Rattle.ste_model.proofs.laws.samples_are_counted.Goals as goal

pub returns : goal.returns
returns c = samples_are_counted
