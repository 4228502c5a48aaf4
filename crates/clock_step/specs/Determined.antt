-- A condition between crates: the bits of one time, in a row.
use Rattle.std.specs.Prelude.{◌≡◌, ◌<◌, ℕ, List, length, map, Bool, false, slice_index_or}
use Rattle.ste_base.specs.declared.id.NodeId.{NodeId}
use Rattle.net_core.specs.declared.raw.RawNet.{RawNet}
use Rattle.net_core.specs.Run.{AreGateBits, IsUndriven}
use Rattle.clock_step.specs.Simulation.{bit_in}

-- the bit of a net in a row of bits, one for each net; what stands behind the row is 0
abbrev pub bit_at : List Bool → ℕ → Bool
bit_at bits id = slice_index_or bits id false

-- each net has its bit
abbrev pub AreBits : RawNet → (ℕ → Bool) → List Bool → Type 0
AreBits net bit bits = (id : ℕ) → id < net.nets → bit_at bits id ≡ bit id

-- the bits of one time, from a row with a bit for each of these nodes and what the latches hold
pub record AreDetermined (net : RawNet) (nodes : List NodeId) (row held : List Bool)
    (bit : ℕ → Bool) : Type 0 where
  pub gates : AreGateBits net bit
  pub given : (id : ℕ) → id < net.nets → IsUndriven net id → bit id ≡ bit_in nodes row id
  pub latches : held ≡ map (λ latch. bit latch.output.0) net.latches
