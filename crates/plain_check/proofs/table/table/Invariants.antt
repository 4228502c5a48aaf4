use Rattle.std.proofs.Common.{◌≡◌, length}
use Rattle.std.specs.Prelude.{All}
use Rattle.ste_model.specs.Asked.{asked_at}
use Rattle.ste_model.specs.Table.{IsPossible, latch_sets}
use Rattle.plain_check.specs.private.Outcome.{table_of}
use Rattle.plain_check.proofs.table.table.Given as goal

-- the rows so far are the table up to this time, and the latches hold what they leave
abbrev pub invariant-loop-t : goal.invariant-loop-t
invariant-loop-t l = record {
  long : length l.rows.items ≡ l.t;
  wide : All (λ row. length row ≡ l.net.raw.nets) l.rows.items;
  count : length l.held.items ≡ length l.net.raw.latches;
  held : l.held.items ≡ latch_sets l.net.raw l.task.reset (table_of l.rows.items) l.t;
  possible : IsPossible l.net.raw l.task.reset (asked_at l.task l.bits) l.t (table_of l.rows.items);
}
