use Rattle.blif_syntax.proofs.Sound.{read_is_sayable}
use Rattle.blif_syntax.proofs.laws.read_is_sayable.Goals as goal

pub returns : goal.returns
returns c = read_is_sayable
