use Rattle.assert_syntax.proofs.ReadBack.{written_is_read}
use Rattle.assert_syntax.proofs.laws.written_is_read.Goals as goal

pub returns : goal.returns
returns c = written_is_read
