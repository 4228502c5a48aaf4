-- For private functions. The bits of one time, as the simulator comes to them net by net.
use Rattle.std.specs.Prelude.{◌≡◌, ◌≢◌, ◌<◌, ◌≤◌, ℕ, List, length, All, Bool, slice_index, slice_index_or}
use Rattle.net_core.specs.declared.raw.Gate.{Gate}
use Rattle.net_core.specs.declared.raw.Latch.{Latch}
use Rattle.net_core.specs.declared.raw.RawNet.{RawNet}
use Rattle.clock_step.specs.Determined.{bit_at}

-- the nets that no gate and no latch from the n-th on drives have their bits
abbrev pub AreLatched : RawNet → ℕ → (ℕ → Bool) → List Bool → Type 0
AreLatched net n bit bits =
    (id : ℕ) → id < net.nets → All (λ gate. gate.output.0 ≢ id) net.gates →
    ((k : ℕ) (d : Latch) → n ≤ k → k < length net.latches →
    (slice_index_or net.latches k d).output.0 ≢ id) → bit_at bits id ≡ bit id

-- the nets that no gate from the n-th place of the order on drives have their bits
abbrev pub AreSettled : RawNet → List ℕ → ℕ → (ℕ → Bool) → List Bool → Type 0
AreSettled net order n bit bits =
    (id : ℕ) → id < net.nets →
    ((k : ℕ) (d : Gate) → n ≤ k → k < length order →
    (slice_index_or net.gates (slice_index order k) d).output.0 ≢ id) →
    bit_at bits id ≡ bit id
