use Rattle.rule_model.proofs.Sound.{derived_holds}
use Rattle.rule_model.proofs.derived_holds.Goals as goal

pub returns : goal.returns
returns c = derived_holds
