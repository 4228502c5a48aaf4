use Rattle.ste_program.proofs.Refusals.{reported_silent}
use Rattle.ste_program.proofs.laws.reported_is_not_refused.Goals as goal

pub returns : goal.returns
returns c = reported_silent
