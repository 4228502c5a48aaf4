use Rattle.exact_model.proofs.Widths.{width_is_greatest}
use Rattle.exact_model.proofs.width_is_greatest.Goals as goal

pub returns : goal.returns
returns c = width_is_greatest
