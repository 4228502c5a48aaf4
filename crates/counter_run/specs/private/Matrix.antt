-- For private functions. Rows of bits, one for each net.
use Rattle.std.specs.Prelude.{◌≡◌, ◌≢◌, ◌<◌, ℕ, Bool, false, [], List, length, All, AllPairs, slice_index_or}
use Rattle.ste_base.specs.declared.id.NodeId.{NodeId}
use Rattle.net_core.specs.declared.raw.RawNet.{RawNet}
use Rattle.net_core.specs.Run.{IsUndriven}

-- the bit of a net at a time; 0 where there is none
abbrev pub cell : List (List Bool) → ℕ → ℕ → Bool
cell rows t id = slice_index_or (slice_index_or rows id []) t false

-- a row for each net, with a bit for each time
pub record IsMatrix (nets times : ℕ) (rows : List (List Bool)) : Type 0 where
  pub tall : length rows ≡ nets
  pub wide : All (λ row. length row ≡ times) rows

-- as many rows, each as long as before
pub record SameShape (old new : List (List Bool)) : Type 0 where
  pub tall : length new ≡ length old
  pub wide : (id : ℕ) → length (slice_index_or new id []) ≡ length (slice_index_or old id [])

-- different nets, just those that nothing drives
pub record AreSourceNodes (net : RawNet) (nodes : List NodeId) : Type 0 where
  pub within : All (λ node. node.0 < net.nets) nodes
  pub different : AllPairs (λ one other. one.0 ≢ other.0) nodes
  pub undriven : All (λ node. IsUndriven net node.0) nodes
  pub every : (id : ℕ) → id < net.nets → IsUndriven net id →
      (k : ℕ) × (k < length nodes) × ((d : NodeId) → (slice_index_or nodes k d).0 ≡ id)
