use Rattle.ste_model.proofs.Due.{due_breaks}
use Rattle.ste_model.proofs.run_laws.due_breaks.Goals as goal

pub returns : goal.returns
returns c = due_breaks
