use Rattle.clock_step.proofs.WrittenOut.{written_is_read}
use Rattle.clock_step.proofs.laws.written_is_read.Goals as goal

pub returns : goal.returns
returns c = written_is_read
