use Rattle.std.proofs.Common.{◌≡◌, ◌≤◌, take}
use Rattle.std.specs.Mem.Slots.{slots_items}
use Rattle.dd_table.specs.Rules.{taken_slots}
use Rattle.dd_table.proofs.table.count_taken.Given as goal

abbrev pub invariant-loop-i : goal.invariant-loop-i
invariant-loop-i l = record {
  counted : l.count ≡ taken_slots (take l.i (slots_items l.closed.words));
  small : l.count ≤ l.i;
}
