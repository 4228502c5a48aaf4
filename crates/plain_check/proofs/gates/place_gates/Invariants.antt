use Rattle.std.proofs.Common.{◌≡◌, ℕ, List, length}
use Rattle.net_core.specs.declared.bit_set.BitSet.{BitSet}
use Rattle.net_core.specs.Possible.{Asked, ArePossible}
use Rattle.plain_check.specs.private.Sets.{Allows, AreFlags, AreSets}
use Rattle.plain_check.proofs.gates.place_gates.Given as goal

-- the gates so far have their sets
abbrev pub invariant-loop-n : goal.invariant-loop-n
invariant-loop-n l = record {
  long : length l.sets.items ≡ l.net.raw.nets;
  sets : (held : List BitSet) (asked : Asked) (family : ℕ → BitSet) →
      length held ≡ length l.net.raw.latches → Allows asked.cuts l.allowed →
      AreFlags l.net.raw.nets asked.weak l.weak → ArePossible l.net.raw held asked family →
      AreSets l.net.raw l.net.settled 0 family l.fn.sets.items →
      AreSets l.net.raw l.net.settled l.n family l.sets.items;
}
