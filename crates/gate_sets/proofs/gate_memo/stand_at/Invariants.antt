use Rattle.std.proofs.Common.{◌≡◌, ◌≤◌, length, take}
use Rattle.gate_sets.proofs.gate_memo.stand_at.Given as goal

abbrev pub invariant-loop-k : goal.invariant-loop-k
invariant-loop-k l = record {
  room : length l.operands ≤ length l.rest;
  same : take l.k l.rest ≡ take l.k l.operands;
}
