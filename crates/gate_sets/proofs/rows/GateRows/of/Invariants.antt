use Rattle.std.proofs.Common.{◌≡◌, ◌≤◌, length}
use Rattle.gate_sets.proofs.Numbered.{AreNumbered}
use Rattle.gate_sets.proofs.rows.GateRows.of.Given as goal

-- both lists of the first covers
abbrev pub invariant-loop-k : goal.invariant-loop-k
invariant-loop-k l = record {
  within : l.k ≤ length l.net.raw.covers;
  places : length l.met.items ≡ 251;
  led : AreNumbered l.kinds l.numbers.items l.net.raw.covers l.k;
}
