use Rattle.std.proofs.Common.{◌≡◌, length, take}
use Rattle.gate_sets.proofs.rows.same_row.Given as goal

abbrev pub invariant-loop-k : goal.invariant-loop-k
invariant-loop-k l = record {
  long : length l.a ≡ length l.b;
  same : take l.k l.a ≡ take l.k l.b;
}
