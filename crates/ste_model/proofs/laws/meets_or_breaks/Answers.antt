use Rattle.ste_model.proofs.Broken.{meets_or_breaks}
use Rattle.ste_model.proofs.laws.meets_or_breaks.Goals as goal

pub returns : goal.returns
returns c = meets_or_breaks
