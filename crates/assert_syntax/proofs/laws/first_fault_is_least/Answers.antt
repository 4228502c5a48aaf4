use Rattle.assert_syntax.proofs.Least.{first_fault_is_least}
use Rattle.assert_syntax.proofs.laws.first_fault_is_least.Goals as goal

pub returns : goal.returns
returns c = first_fault_is_least
