-- Meaning. Sets of bits, which stand for ternary values: those of the latches at time 0 and one
-- time later.
use Rattle.std.specs.Prelude.{◌≡◌, ℕ, ◌<◌, ◌↔◌, Bool, true, false, not, List, map, IsTrue, if◌then◌else◌}
use Rattle.net_core.specs.declared.bit_set.BitSet.{BitSet}
use Rattle.net_core.specs.declared.raw.Init.{Init}
use Rattle.net_core.specs.declared.raw.Init.TheVariants.{Zero, One, Free}
use Rattle.net_core.specs.declared.raw.Latch.{Latch}
use Rattle.net_core.specs.declared.raw.RawNet.{RawNet}
use Rattle.net_core.specs.Run.{MayStart}

-- whether the set has the bit
abbrev pub has : BitSet → Bool → Bool
has set bit = if bit then set.one else set.zero

-- the bit is in the set
abbrev pub IsIn : Bool → BitSet → Type 0
IsIn bit set = IsTrue (has set bit)

-- each bit of the one set is in the other
abbrev pub IsWithin : BitSet → BitSet → Type 0
IsWithin small large = (bit : Bool) → IsIn bit small → IsIn bit large

-- the set of this bit alone
abbrev pub only : Bool → BitSet
only bit = record { zero = not bit; one = bit }

-- the set of both bits, an unknown
abbrev pub both : BitSet
both = record { zero = true; one = true }

-- the empty set, an overconstrained net
abbrev pub neither : BitSet
neither = record { zero = false; one = false }

-- the bits of an initial value
abbrev pub init_set : Init → BitSet
init_set Zero = only false
init_set One = only true
init_set Free = both

-- the first values of a latch: with reset those of its initial value, and both bits otherwise
abbrev pub first_set : Bool → Latch → BitSet
first_set reset latch = if reset then init_set latch.init else both

-- the latches' sets at time 0
abbrev pub first_sets : RawNet → Bool → List BitSet
first_sets net reset = map (first_set reset) net.latches

-- the latches' sets one time later: the sets of their inputs
abbrev pub next_sets : RawNet → (ℕ → BitSet) → List BitSet
next_sets net sets = map (λ latch. sets latch.input.0) net.latches

-- some net has no bit
abbrev pub IsEmptyAt : RawNet → (ℕ → BitSet) → Type 0
IsEmptyAt net sets = (id : ℕ) × (id < net.nets) × (sets id ≡ neither)

-- Law: the first values of a latch are the bits that it may start with.
abbrev pub FirstSetsAreStarts : Type 0
FirstSetsAreStarts =
    (reset : Bool) (latch : Latch) (bit : Bool) → IsIn bit (first_set reset latch)
    ↔ MayStart reset latch bit
