-- For private functions. Which gates read each net, as chains of slots, and marks for gates by
-- their places in the settled order.
use Rattle.std.specs.Prelude.{◌≡◌, ◌≢◌, ◌<◌, ◌≤◌, ◌⊎◌, ℕ, suc, Bool, false, List, All, length, slice_index, slice_index_or}
use Rattle.ste_base.specs.declared.id.NodeId.{NodeId}
use Rattle.net_core.specs.declared.raw.Gate.{Gate}
use Rattle.net_core.specs.declared.raw.RawNet.{RawNet}
use Rattle.clock_step.specs.declared.readers.Readers.{Readers}
use Rattle.clock_step.specs.Determined.{bit_at}

-- the gate at a place of the order
abbrev pub gate_at : RawNet → List ℕ → ℕ → Gate → Gate
gate_at net order place d = slice_index_or net.gates (slice_index order place) d

-- the net is no input of the gate
abbrev pub IsNoInput : ℕ → Gate → Type 0
IsNoInput id gate = All (λ input. input.0 ≢ id) gate.inputs

-- the link names the last of the first n slots that are for the net, or is 0 where none of them is;
-- `nets` has by slot the net that it is for
pub record IsLast (nets : List ℕ) (id n link : ℕ) : Type 0 where
  pub within : link ≤ n
  pub own : (s : ℕ) → link ≡ suc s → slice_index nets s ≡ id
  pub none : (s : ℕ) → link ≤ s → s < n → slice_index nets s ≢ id

-- a slot for the net has the place
pub record HasSlot (nets places : List ℕ) (id place : ℕ) : Type 0 where
  pub slot : ℕ
  pub within : slot < length nets
  pub net : slice_index nets slot ≡ id
  pub at : slice_index places slot ≡ place

-- chains with a slot for each input of the gates before place n, and for the first j of the one at
-- place n
pub record AreChains (net : RawNet) (order : List ℕ) (n j : ℕ) (readers : Readers) : Type 0 where
  pub nets : List ℕ
  pub tall : length readers.heads.items ≡ net.nets
  pub places : length readers.places.items ≡ length nets
  pub nexts : length readers.nexts.items ≡ length nets
  pub head : (id : ℕ) → id < net.nets →
      IsLast nets id (length nets) (slice_index readers.heads.items id)
  pub next : (s : ℕ) → s < length nets →
      IsLast nets (slice_index nets s) s (slice_index readers.nexts.items s)
  pub inside : (s : ℕ) → s < length nets → slice_index readers.places.items s < length order
  pub real : (s : ℕ) (d : Gate) → s < length nets →
      IsNoInput (slice_index nets s) (gate_at net order (slice_index readers.places.items s) d) → ⊥
  pub every : (k i : ℕ) (d : Gate) (e : NodeId) → (k < n) ⊎ ((k ≡ n) × (i < j)) →
      i < length (gate_at net order k d).inputs →
      HasSlot nets readers.places.items (slice_index_or (gate_at net order k d).inputs i e).0 k

-- chains with a slot for each input of each gate
abbrev pub AreReaders : RawNet → List ℕ → Readers → Type 0
AreReaders net order readers = AreChains net order (length order) 0 readers

-- the gates that read the net are marked, and no other mark is changed
pub record AreMarked (net : RawNet) (order : List ℕ) (id : ℕ) (old new : List Bool) : Type 0 where
  pub long : length new ≡ length old
  pub unmarked : (k : ℕ) (d : Gate) → k < length order → bit_at new k ≡ false →
      (bit_at old k ≡ false) × IsNoInput id (gate_at net order k d)
  pub kept : (k : ℕ) (d : Gate) → IsNoInput id (gate_at net order k d) → bit_at new k ≡ bit_at old k
