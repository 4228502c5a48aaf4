use Rattle.exact_model.proofs.WiderNeeds.{wider_needs_as_many}
use Rattle.exact_model.proofs.wider_needs_as_many.Goals as goal

pub returns : goal.returns
returns c = wider_needs_as_many
