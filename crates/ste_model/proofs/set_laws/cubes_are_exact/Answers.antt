use Rattle.ste_model.proofs.CubeLists.{cubes_are_exact}
use Rattle.ste_model.proofs.set_laws.cubes_are_exact.Goals as goal

pub returns : goal.returns
returns c = cubes_are_exact
