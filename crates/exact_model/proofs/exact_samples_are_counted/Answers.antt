use Rattle.exact_model.proofs.ExactCounts.{exact_samples_are_counted}
use Rattle.exact_model.proofs.exact_samples_are_counted.Goals as goal

pub returns : goal.returns
returns c = exact_samples_are_counted
