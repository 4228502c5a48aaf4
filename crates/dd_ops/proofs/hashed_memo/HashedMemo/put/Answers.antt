use Rattle.std.proofs.Common.{sym, subst}
use Rattle.dd_ops.specs.declared.hashed_memo.HashedMemo.{HashedMemo}
use Rattle.dd_ops.specs.private.Tables.{AddsEntry, HasEntries}
use Rattle.dd_ops.proofs.Walks.{adds_placed}
use Rattle.dd_ops.proofs.Placing.{adds_wider}
use Rattle.dd_ops.proofs.hashed_memo.HashedMemo.put.Goals.{then-self-len+in_ok-widen, else-self-len}
use Rattle.dd_ops.proofs.hashed_memo.HashedMemo.put.Goals as goal

pub returns : goal.returns
returns c =
    let old = c.args.self.now.entries.items in
    let mid = c.if-self-len.self.entries.items in
    let adds = adds_placed mid c.put_into.new.table.items c.args.entry c.put_into.ensures in
    elim c.if-self-len.branch [
      | then-self-len+in_ok-widen w ↦
          let has : HasEntries old mid = subst (λ (r : HashedMemo). HasEntries old r.entries.items) (sym w.self-is) w.in_ok-widen.ensures.has in
          adds_wider old mid c.put_into.new.table.items c.args.entry has adds
      | else-self-len w ↦
          subst (λ (r : HashedMemo). AddsEntry r.entries.items c.args.entry c.put_into.new.table.items) w.self-is adds
    ]
