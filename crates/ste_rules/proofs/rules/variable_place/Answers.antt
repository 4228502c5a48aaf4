use Rattle.std.proofs.Common.{◌∙◌}
use Rattle.ste_rules.proofs.Vars.{position_is}
use Rattle.ste_rules.proofs.rules.variable_place.Goals as goal

pub returns-clause-number : goal.returns-clause-number
returns-clause-number c = c.name_place.ensures.place ∙ position_is c.args.vars.now c.args.name.now
