use Rattle.std.proofs.Common.{◌≡◌, ◌≤◌, ◌+◌, drop, length}
use Rattle.net_core.specs.private.Literals.{literals_from}
use Rattle.net_core.proofs.literals_at.literal_count.Given as goal

abbrev pub invariant-loop-lit : goal.invariant-loop-lit
invariant-loop-lit l = record {
  count : l.count + length (literals_from l.lit-index (drop l.lit-index l.row)) ≡ length (literals_from 0 l.row);
  within : l.count ≤ l.lit-index;
}
