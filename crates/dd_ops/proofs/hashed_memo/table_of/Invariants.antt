use Rattle.std.proofs.Common.{◌≡◌, length}
use Rattle.dd_ops.specs.private.Tables.{HasFirst}
use Rattle.dd_ops.proofs.hashed_memo.table_of.Given as goal

abbrev pub invariant-loop-entry : goal.invariant-loop-entry
invariant-loop-entry l = record {
  long : length l.table.items ≡ l.size;
  has : HasFirst l.entries l.entry-index l.table.items;
}
