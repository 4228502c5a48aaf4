use Rattle.std.proofs.Common.{refl}
use Rattle.sym_step.proofs.laws.samples_are_counted.Goals as goal

pub returns : goal.returns
returns c = record { plain = refl; guarded = refl }
