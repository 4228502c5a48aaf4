use Rattle.std.proofs.Common.{◌≡◌}
use Rattle.dd_growing.specs.private.Slots.{IsAt}
use Rattle.dd_growing.proofs.slots.place.Given as goal

abbrev pub invariant-loop-n : goal.invariant-loop-n
invariant-loop-n l = record {
  same : l.table ≡ l.initial.table;
  here : IsAt l.initial.table l.node l.n l.at;
}
