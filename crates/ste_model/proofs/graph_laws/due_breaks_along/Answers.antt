use Rattle.ste_model.proofs.DueAlong.{due_breaks_along}
use Rattle.ste_model.proofs.graph_laws.due_breaks_along.Goals as goal

pub returns : goal.returns
returns c = due_breaks_along
