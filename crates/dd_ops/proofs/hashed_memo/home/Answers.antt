use Rattle.dd_ops.proofs.Walks.{home_is}
use Rattle.dd_ops.proofs.hashed_memo.home.Goals as goal

pub returns : goal.returns
returns c = home_is c.args.size c.mixed.result c.args.x c.mixed.ensures c.requires
