use Rattle.dd_table.proofs.Schedules.{always, stand_once}
use Rattle.dd_table.proofs.laws.schedules_keep_the_rules.Goals as goal

pub returns-clause-rules : goal.returns-clause-rules
returns-clause-rules c = always

pub returns-clause-once : goal.returns-clause-once
returns-clause-once c = stand_once
