use Rattle.dd_growing.proofs.Walks.{near_first, near_twice}
use Rattle.dd_growing.proofs.slots.near_of.Goals as goal

pub returns-then-twice-size : goal.returns-then-twice-size
returns-then-twice-size c = (near_twice c.args.size c.newer.result c.args.node c.newer.ensures c.if-twice-size.true, c.if-twice-size.true)

pub returns-else-twice-size : goal.returns-else-twice-size
returns-else-twice-size c = (near_first c.args.size c.newer.result c.args.node c.newer.ensures c.if-twice-size.false, c.requires)
