-- For private functions. The bits of one time, got from those of another: a gate that is not due is
-- at rest, whatever time the bits are of.
use Rattle.std.specs.Prelude.{◌≡◌, ◌≢◌, ◌<◌, ℕ, Bool, false, List, All, length, slice_index_or}
use Rattle.ste_base.specs.declared.id.NodeId.{NodeId}
use Rattle.net_core.specs.declared.raw.Gate.{Gate}
use Rattle.net_core.specs.declared.raw.RawNet.{RawNet}
use Rattle.net_core.specs.Run.{IsUndriven}
use Rattle.clock_step.specs.private.Readers.{IsNoInput, gate_at}
use Rattle.clock_step.specs.Determined.{bit_at}
use Rattle.clock_step.specs.Resting.{AreAtRest}

-- each net that nothing drives is among the nodes
abbrev pub IsEverySource : RawNet → List NodeId → Type 0
IsEverySource net nodes =
    (id : ℕ) → id < net.nets → IsUndriven net id →
    (k : ℕ) × (k < length nodes) × ((d : NodeId) → (slice_index_or nodes k d).0 ≡ id)

-- the gate's inputs have the same bits in both rows
abbrev pub AreInputsKept : List Bool → List Bool → Gate → Type 0
AreInputsKept old new gate = All (λ input. bit_at new input.0 ≡ bit_at old input.0) gate.inputs

-- one net has its bit, and a gate of which an input has changed is due
pub record IsPlaced (net : RawNet) (order : List ℕ) (id : ℕ) (bit : Bool)
    (old new due due' : List Bool) : Type 0 where
  pub long : length new ≡ length old
  pub dues : length due' ≡ length due
  pub here : bit_at new id ≡ bit
  pub others : (i : ℕ) → i ≢ id → bit_at new i ≡ bit_at old i
  pub unmarked : (k : ℕ) (d : Gate) → k < length order → bit_at due' k ≡ false →
      (bit_at due k ≡ false) × AreInputsKept old new (gate_at net order k d)
  pub kept : (k : ℕ) (d : Gate) → IsNoInput id (gate_at net order k d) →
      bit_at due' k ≡ bit_at due k

-- the first n of these nodes have their bits of the row
pub record AreFirstPlaced (net : RawNet) (order : List ℕ) (nodes : List NodeId) (n : ℕ)
    (row old new due : List Bool) : Type 0 where
  pub long : length new ≡ net.nets
  pub dues : length due ≡ length order
  pub rest : AreAtRest net order due new
  pub placed : (k : ℕ) (d : NodeId) → k < n → bit_at new (slice_index_or nodes k d).0 ≡ bit_at row k
  pub others : (id : ℕ) → All (λ node. node.0 ≢ id) nodes → bit_at new id ≡ bit_at old id

abbrev pub AreNodesPlaced : RawNet → List ℕ → List NodeId → List Bool → List Bool → List Bool →
    List Bool → Type 0
AreNodesPlaced net order nodes row old new due =
    AreFirstPlaced net order nodes (length nodes) row old new due

-- no gate before place n is due, and nets that no gate drives have the bits that they began with
pub record AreTurned (net : RawNet) (order : List ℕ) (n : ℕ) (begun bits due : List Bool) :
    Type 0 where
  pub long : length bits ≡ net.nets
  pub dues : length due ≡ length order
  pub past : (k : ℕ) → k < n → bit_at due k ≡ false
  pub rest : AreAtRest net order due bits
  pub others : (id : ℕ) → All (λ gate. gate.output.0 ≢ id) net.gates →
      bit_at bits id ≡ bit_at begun id
