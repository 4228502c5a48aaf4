use Rattle.dd_ops.proofs.Keeping.{if_put}
use Rattle.dd_ops.proofs.memo.Memo.put.Goals as goal

pub returns-in-InTable : goal.returns-in-InTable
returns-in-InTable c = if_put c.put.result c.args.self.now c.args.x c.args.r c.in-InTable.hashed_memo c.put.new.self c.requires c.in-InTable.is c.put.ensures
