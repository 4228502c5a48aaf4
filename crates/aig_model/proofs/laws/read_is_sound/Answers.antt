use Rattle.aig_model.proofs.Sounds.{read_is_sound}
use Rattle.aig_model.proofs.laws.read_is_sound.Goals as goal

pub returns : goal.returns
returns c = read_is_sound
