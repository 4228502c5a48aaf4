use Rattle.ste_model.proofs.Orders.{assignments_are_ordered}
use Rattle.ste_model.proofs.laws.assignments_are_ordered.Goals as goal

pub returns : goal.returns
returns c = assignments_are_ordered
