use Rattle.dd_table.proofs.Schedules.{agree}
use Rattle.dd_table.proofs.laws.seats_agree.Goals as goal

pub returns : goal.returns
returns c = agree
