use Rattle.ste_model.proofs.Reached.{found_has_candidate}
use Rattle.ste_model.proofs.graph_laws.found_has_candidate.Goals as goal

pub returns : goal.returns
returns c = found_has_candidate
