use Rattle.dd_growing.specs.private.Slots.{IsAt, IsPassed}
use Rattle.dd_growing.proofs.slots.find.Given as goal

abbrev pub invariant-loop-n : goal.invariant-loop-n
invariant-loop-n l = record {
  here : IsAt l.slots l.node l.n l.at;
  passed : IsPassed l.nodes l.slots l.node l.n;
}
