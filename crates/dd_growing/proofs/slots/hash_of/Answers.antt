use Rattle.std.proofs.Common.{refl}
use Rattle.dd_growing.specs.private.Slots.{hash_of}
use Rattle.dd_growing.proofs.slots.hash_of.Goals as goal

pub returns : goal.returns
unfolding hash_of
returns c = refl
