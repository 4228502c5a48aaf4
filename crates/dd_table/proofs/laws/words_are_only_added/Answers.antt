use Rattle.dd_table.proofs.Schedules.{appends}
use Rattle.dd_table.proofs.laws.words_are_only_added.Goals as goal

pub returns : goal.returns
returns c = appends
