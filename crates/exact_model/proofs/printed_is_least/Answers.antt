use Rattle.exact_model.proofs.Printing.{printed_is_least}
use Rattle.exact_model.proofs.printed_is_least.Goals as goal

pub returns : goal.returns
returns c = printed_is_least
