-- For private functions. The possible sets of one time, as the plain checker comes to them net by
-- net.
use Rattle.std.specs.Prelude.{◌≡◌, ◌≢◌, ◌&&◌, ℕ, ◌<◌, ◌≤◌, ◌↔◌, Bool, false, not, List, length, All, IsTrue, slice_index, slice_index_or}
use Rattle.std.specs.List.{list_all, list_any, zip}
use Rattle.net_core.specs.declared.bit_set.BitSet.{BitSet}
use Rattle.net_core.specs.declared.cover.Cover.{Cover}
use Rattle.net_core.specs.declared.raw.Gate.{Gate}
use Rattle.net_core.specs.declared.raw.Latch.{Latch}
use Rattle.net_core.specs.declared.raw.RawNet.{RawNet}
use Rattle.net_core.specs.Cover.{cover_bit}
use Rattle.net_core.specs.Run.{Cut}
use Rattle.net_core.specs.Possible.{is_weakened}
use Rattle.net_core.specs.Sets.{IsIn, both, has}

-- the set of a net in a list of sets, one for each net; what stands behind the list is both bits
abbrev pub set_at : List BitSet → ℕ → BitSet
set_at sets id = slice_index_or sets id both

-- each net is allowed just the bits that what is asked of it leaves
abbrev pub Allows : List Cut → List BitSet → Type 0
Allows cuts allowed =
    (id : ℕ) (bit : Bool) → id < length allowed →
    IsIn bit (set_at allowed id) ↔ All (λ cut. IsTrue cut.on → cut.node ≡ id → cut.value ≡ bit) cuts

-- each of so many nets has a flag just where it is weakened; a net that the flags lack has none
abbrev pub AreFlags : ℕ → List ℕ → List Bool → Type 0
AreFlags nets weak flags =
    (id : ℕ) → id < nets → slice_index_or flags id false ≡ is_weakened weak id

-- no gate drives the net
abbrev pub NoGate : RawNet → ℕ → Type 0
NoGate net id = All (λ gate. gate.output.0 ≢ id) net.gates

-- the nets that no gate and no latch from the n-th on drives have their sets
abbrev pub AreLatched : RawNet → ℕ → (ℕ → BitSet) → List BitSet → Type 0
AreLatched net n family sets =
    (id : ℕ) → id < net.nets → NoGate net id →
    ((k : ℕ) (d : Latch) → n ≤ k → k < length net.latches →
    (slice_index_or net.latches k d).output.0 ≢ id) → set_at sets id ≡ family id

-- the nets that no gate from the n-th place of the order on drives have their sets
abbrev pub AreSets : RawNet → List ℕ → ℕ → (ℕ → BitSet) → List BitSet → Type 0
AreSets net order n family sets =
    (id : ℕ) → id < net.nets →
    ((k : ℕ) (d : Gate) → n ≤ k → k < length order →
    (slice_index_or net.gates (slice_index order k) d).output.0 ≢ id) →
    set_at sets id ≡ family id

-- each bit is in the set at its position
abbrev pub fits : List Bool → List BitSet → Bool
fits bits sets = list_all (λ at. has at.1 at.0) (zip bits sets)

-- some choice of bits from the sets, among these lists, gives 1, or 0
abbrev pub may_give_one : Cover → List BitSet → List (List Bool) → Bool
may_give_one cover sets choices = list_any (λ bits. fits bits sets && cover_bit cover bits) choices

abbrev pub may_give_zero : Cover → List BitSet → List (List Bool) → Bool
may_give_zero cover sets choices =
    list_any (λ bits. fits bits sets && not (cover_bit cover bits)) choices
