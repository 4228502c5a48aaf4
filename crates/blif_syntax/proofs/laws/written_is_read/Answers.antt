use Rattle.blif_syntax.proofs.ReadBack.{read_back}
use Rattle.blif_syntax.proofs.laws.written_is_read.Goals as goal

pub returns : goal.returns
returns c = read_back
