use Rattle.std.proofs.Common.{◌≡◌, ℕ, length}
use Rattle.net_core.specs.declared.bit_set.BitSet.{BitSet}
use Rattle.net_core.specs.Possible.{Asked, ArePossible}
use Rattle.plain_check.specs.private.Sets.{Allows, AreFlags, AreLatched}
use Rattle.plain_check.proofs.sources.place_latches.Given as goal

-- the latches so far have their sets
abbrev pub invariant-loop-k : goal.invariant-loop-k
invariant-loop-k l = record {
  long : length l.sets.items ≡ l.net.raw.nets;
  sets : (asked : Asked) (family : ℕ → BitSet) → Allows asked.cuts l.allowed →
      AreFlags l.net.raw.nets asked.weak l.weak → ArePossible l.net.raw l.held asked family →
      AreLatched l.net.raw 0 family l.fn.sets.items → AreLatched l.net.raw l.k family l.sets.items;
}
