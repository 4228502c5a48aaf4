use Rattle.blif_lines.proofs.Sizes.{lines_fit}
use Rattle.blif_lines.proofs.laws.lines_fit_the_text.Goals as goal

pub returns : goal.returns
returns c = lines_fit
