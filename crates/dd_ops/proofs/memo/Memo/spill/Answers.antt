use Rattle.std.proofs.Common.{sym, subst, List}
use Rattle.dd_ops.specs.declared.few.Entry.{Entry}
use Rattle.dd_ops.specs.declared.memo.Memo.{Memo}
use Rattle.dd_ops.specs.declared.memo.Memo.TheVariants.{InTable}
use Rattle.dd_ops.specs.private.Met.{Adds}
use Rattle.dd_ops.specs.private.Tables.{HasEntries}
use Rattle.dd_ops.proofs.Keeping.{adds-moved, if_put}
use Rattle.dd_ops.proofs.memo.Memo.spill.Goals as goal

pub returns-in_ok-put-in-InPlace : goal.returns-in_ok-put-in-InPlace
returns-in_ok-put-in-InPlace c =
    let mid = c.in_ok-hashed_memo-in-InPlace.hashed_memo.entries.items in
    let x = c.args.entry.operands in
    let r = c.args.entry.result in
    let has : HasEntries c.in-InPlace.few mid = subst (λ (es : List Entry). HasEntries es mid) c.as_slice.ensures c.in_ok-hashed_memo-in-InPlace.ensures in
    subst (λ (m : Memo). Adds m x r (InTable c.put.new.self)) (sym c.in-InPlace.is)
    (adds-moved c.in-InPlace.few x r mid c.put.new.self c.requires has c.in_ok-put-in-InPlace.ensures)

pub returns-in-InTable : goal.returns-in-InTable
returns-in-InTable c = if_put c.put-in-InTable.result c.args.self.now c.args.entry.operands c.args.entry.result c.in-InTable.hashed_memo c.put-in-InTable.new.self c.requires c.in-InTable.is c.put-in-InTable.ensures
