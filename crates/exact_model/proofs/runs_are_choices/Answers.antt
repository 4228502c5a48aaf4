use Rattle.exact_model.proofs.ChoiceRuns.{runs_are_choices}
use Rattle.exact_model.proofs.runs_are_choices.Goals as goal

pub returns : goal.returns
returns c = runs_are_choices
