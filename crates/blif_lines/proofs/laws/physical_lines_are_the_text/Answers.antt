use Rattle.blif_lines.proofs.Physical.{physical_lines}
use Rattle.blif_lines.proofs.laws.physical_lines_are_the_text.Goals as goal

pub returns : goal.returns
returns c = physical_lines
