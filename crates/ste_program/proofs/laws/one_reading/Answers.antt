use Rattle.ste_program.proofs.TextStages.{one_reading}
use Rattle.ste_program.proofs.laws.one_reading.Goals as goal

pub returns : goal.returns
returns c = one_reading
