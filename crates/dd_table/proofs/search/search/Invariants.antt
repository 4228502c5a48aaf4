use Rattle.std.proofs.Common.{◌≡◌, ◌+◌, ◌<◌, true}
use Rattle.dd_table.specs.Tells.{IsSearching}
use Rattle.dd_table.proofs.search.search.Given as goal

abbrev pub invariant-loop-n : goal.invariant-loop-n
invariant-loop-n g l = record {
  table : l.seat.table_id ≡ l.initial.seat.table_id;
  empty : l.seat.me.1 ≡ l.initial.seat.me.1;
  in_range : l.at < l.slots;
  cost : l.once ≡ true → l.steps ≡ l.initial.steps + l.n;
  seen : IsSearching l.word l.n l.at l.initial.seat.me.0 l.seat.me.0;
}
