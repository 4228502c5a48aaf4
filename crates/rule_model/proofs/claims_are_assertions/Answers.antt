use Rattle.rule_model.proofs.Trees.{claims_are_assertions}
use Rattle.rule_model.proofs.claims_are_assertions.Goals as goal

pub returns : goal.returns
returns c = claims_are_assertions
