use Rattle.std.proofs.Common.{length, sym, ap, ◌∙◌, subst, List, Vec, Global, ◌+◌}
use Rattle.dd_ops.specs.declared.few.Entry.{Entry}
use Rattle.dd_ops.specs.private.Tables.{HasFirst}
use Rattle.dd_ops.proofs.Walks.{long_placed}
use Rattle.dd_ops.proofs.Placing.{has_more, has_skipped}
use Rattle.dd_ops.proofs.hashed_memo.table_of.Goals.{then-is_used, else-is_used}
use Rattle.dd_ops.proofs.hashed_memo.table_of.Goals as goal

pub loop-entry-preserved : goal.loop-entry-preserved
loop-entry-preserved c =
    let i = c.loop-entry.invariant in
    let es = c.args.entries.now in
    let k = c.loop-entry.entry-index in
    let lt = c.loop-entry-test.true in
    elim c.if-is_used.branch [
      | then-is_used w ↦
          let is = ap (λ (t : Vec Entry Global). t.items) w.table-is in
          let p = w.put_into.ensures in
          record {
            long = ap (λ (xs : List Entry). length xs) is ∙ long_placed c.loop-entry.table.items w.put_into.new.table.items _ p ∙ i.long;
            has = subst (λ (xs : List Entry). HasFirst es (k + 1) xs) (sym is)
                (has_more es k _ c.loop-entry.table.items w.put_into.new.table.items lt i.has (sym c.is_used.ensures ∙ w.if-is_used.true) p);
          }
      | else-is_used w ↦
          let is = ap (λ (t : Vec Entry Global). t.items) w.table-is in
          record {
            long = ap (λ (xs : List Entry). length xs) is ∙ i.long;
            has = subst (λ (xs : List Entry). HasFirst es (k + 1) xs) (sym is)
                (has_skipped es k _ c.loop-entry.table.items lt i.has (sym c.is_used.ensures ∙ w.if-is_used.false));
          }
    ]
