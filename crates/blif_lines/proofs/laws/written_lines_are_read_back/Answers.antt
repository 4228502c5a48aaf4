use Rattle.blif_lines.proofs.Written.{read_back}
use Rattle.blif_lines.proofs.laws.written_lines_are_read_back.Goals as goal

pub returns : goal.returns
returns c = read_back
