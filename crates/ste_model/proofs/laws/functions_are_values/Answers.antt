use Rattle.ste_model.proofs.Values.{functions_are_values}
use Rattle.ste_model.proofs.laws.functions_are_values.Goals as goal

pub returns : goal.returns
returns c = functions_are_values
