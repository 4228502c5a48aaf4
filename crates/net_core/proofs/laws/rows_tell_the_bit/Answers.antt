use Rattle.net_core.proofs.Complement.{rows_tell_the_bit}
use Rattle.net_core.proofs.laws.rows_tell_the_bit.Goals as goal

pub returns : goal.returns
returns c = rows_tell_the_bit
