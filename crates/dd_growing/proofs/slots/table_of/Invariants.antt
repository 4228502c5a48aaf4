use Rattle.std.proofs.Common.{◌≡◌, length}
use Rattle.dd_growing.specs.private.Slots.{HasFirst}
use Rattle.dd_growing.proofs.slots.table_of.Given as goal

abbrev pub invariant-loop-k : goal.invariant-loop-k
invariant-loop-k l = record {
  long : length l.table.items ≡ l.size;
  has : HasFirst l.nodes l.k l.table.items;
}
