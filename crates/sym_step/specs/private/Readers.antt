-- For private functions. Which gates and latches look at a net, and marks for them.
use Rattle.std.specs.Prelude.{◌≡◌, ◌≢◌, ◌<◌, ◌≤◌, ◌+◌, All, Bool, false, ℕ, zero, suc, List, Option, None, Some, length, slice_index_or}
use Rattle.net_core.specs.declared.raw.Gate.{Gate}
use Rattle.net_core.specs.declared.raw.Latch.{Latch}
use Rattle.net_core.specs.declared.raw.RawNet.{RawNet}
use Rattle.net_core.specs.declared.source.Source.{Source}
use Rattle.net_core.specs.declared.source.Source.TheVariants.{Input, Free, Gate as OfGate, Latch as OfLatch}
use Rattle.net_core.specs.Source.{source_of}
use Rattle.sym_step.specs.declared.readers.Readers.{Readers}
use Rattle.sym_step.specs.declared.readers.Slot.{Slot}

-- the flag of a number in a list; none for one beyond the list
abbrev pub flag_at : List Bool → ℕ → Bool
flag_at flags id = slice_index_or flags id false

-- a number that has no mark afterwards had none before, and is none that was to be marked
abbrev pub AreMarked : (ℕ → Type 0) → List Bool → List Bool → Type 0
AreMarked Left old new =
    (k : ℕ) → k < length old → flag_at new k ≡ false → (flag_at old k ≡ false) × Left k

-- the link names a slot: it is one more than the slot's place
abbrev pub IsLink : List Slot → ℕ → Type 0
IsLink slots link = (0 < link) × (link ≤ length slots)

-- the slot that a link names
abbrev pub slot_of : List Slot → ℕ → Slot
slot_of slots zero = record { number = 0; next = 0 }
slot_of slots (suc place) = slice_index_or slots place (record { number = 0; next = 0 })

-- the link behind n others, on the chain from a first link on
abbrev pub spot : List Slot → ℕ → ℕ → ℕ
spot slots head zero = head
spot slots head (suc n) = (slot_of slots (spot slots head n)).next

-- a slot with the number is on the chain from a first link on
pub record IsOnChain (slots : List Slot) (head k : ℕ) : Type 0 where
  pub place : ℕ
  pub few : place < length slots
  pub link : IsLink slots (spot slots head place)
  pub number : (slot_of slots (spot slots head place)).number ≡ k

-- the number is on none of the first n slots of the chain
abbrev pub IsNotMet : List Slot → ℕ → ℕ → ℕ → Type 0
IsNotMet slots head n k =
    (m : ℕ) → m < n → IsLink slots (spot slots head m) →
    (slot_of slots (spot slots head m)).number ≢ k

-- the first link of the list of a net
abbrev pub head_of : Readers → ℕ → ℕ
head_of readers id = slice_index_or readers.heads.items id 0

-- the number stands in the list of the net
abbrev pub Lists : Readers → ℕ → ℕ → Type 0
Lists readers id k = IsOnChain readers.slots.items (head_of readers id) k

-- lists with more numbers
pub record AreAdded (old new : Readers) : Type 0 where
  pub long : length new.heads.items ≡ length old.heads.items
  pub stay : (id k : ℕ) → Lists old id k → Lists new id k

-- the gate of this number stands in the lists of its inputs and of its output
pub record ReadsAs (readers : Readers) (k : ℕ) (gate : Gate) : Type 0 where
  pub inputs : All (λ input. Lists readers input.0 k) gate.inputs
  pub output : Lists readers gate.output.0 k

-- the latch of this number stands in the lists of its input and of its output
pub record IsBetween (readers : Readers) (k : ℕ) (latch : Latch) : Type 0 where
  pub input : Lists readers latch.input.0 k
  pub output : Lists readers latch.output.0 k

-- each gate stands in the lists of its inputs and of its output
abbrev pub AreGates : RawNet → Readers → Type 0
AreGates net readers =
    (k : ℕ) (d : Gate) → k < length net.gates → ReadsAs readers k (slice_index_or net.gates k d)

-- each latch does, by its number behind those of the gates
abbrev pub AreLatches : RawNet → Readers → Type 0
AreLatches net readers =
    (k : ℕ) (d : Latch) → k < length net.latches →
    IsBetween readers (length net.gates + k) (slice_index_or net.latches k d)

-- the lists of a net
pub record AreReaders (net : RawNet) (readers : Readers) : Type 0 where
  pub gates : AreGates net readers
  pub latches : AreLatches net readers

-- the number of a gate, or of a latch behind those of the gates
abbrev pub number_of : RawNet → Source → Option ℕ
number_of net (OfGate k) = Some k
number_of net (OfLatch l) = Some (length net.gates + l)
number_of net Input = None
number_of net Free = None

-- the number of what drives a net
abbrev pub driver_number : RawNet → ℕ → Option ℕ
driver_number net id = number_of net (source_of net id)
