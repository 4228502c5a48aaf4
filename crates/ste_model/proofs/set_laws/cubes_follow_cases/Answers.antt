use Rattle.ste_model.proofs.CubeLists.{cubes_follow_cases}
use Rattle.ste_model.proofs.set_laws.cubes_follow_cases.Goals as goal

pub returns : goal.returns
returns c = cubes_follow_cases
