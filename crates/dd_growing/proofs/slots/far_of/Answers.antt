use Rattle.dd_growing.proofs.Walks.{far_is}
use Rattle.dd_growing.proofs.slots.far_of.Goals as goal

pub returns : goal.returns
returns c = far_is c.args.size c.args.hash c.args.node c.requires.hash c.requires.some
