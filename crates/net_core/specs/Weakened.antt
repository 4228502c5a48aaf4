-- A law. What weakening more nets does to the possible sets of one time.
use Rattle.std.specs.Prelude.{ℕ, List, IsTrue}
use Rattle.std.specs.List.{AllZip}
use Rattle.net_core.specs.declared.bit_set.BitSet.{BitSet}
use Rattle.net_core.specs.declared.raw.RawNet.{RawNet}
use Rattle.net_core.specs.Run.{Cut, IsSettled}
use Rattle.net_core.specs.Sets.{IsWithin}
use Rattle.net_core.specs.Possible.{ArePossible, is_weakened}

-- the second list weakens each net that the first one weakens
abbrev pub WeakensMore : List ℕ → List ℕ → Type 0
WeakensMore few many = (id : ℕ) → IsTrue (is_weakened few id) → IsTrue (is_weakened many id)

-- Law: in a net without loops, with more nets weakened, the same cuts, and sets of the latches that
-- contain those before, each possible set contains the one before.
abbrev pub WeakenedSetsGrow : Type 0
WeakenedSetsGrow =
    (net : RawNet) (from to : List BitSet) (cuts : List Cut) (few many : List ℕ)
    (small large : ℕ → BitSet) →
    IsSettled net → AllZip IsWithin from to → WeakensMore few many →
    ArePossible net from (record { cuts = cuts; weak = few }) small →
    ArePossible net to (record { cuts = cuts; weak = many }) large → (id : ℕ) →
    IsWithin (small id) (large id)
