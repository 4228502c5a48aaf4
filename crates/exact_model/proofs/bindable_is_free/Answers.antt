use Rattle.exact_model.proofs.Printing.{bindable_is_free}
use Rattle.exact_model.proofs.bindable_is_free.Goals as goal

pub returns : goal.returns
returns c = bindable_is_free
