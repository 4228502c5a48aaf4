-- A condition between crates: which gates are at rest in a row of bits.
use Rattle.std.specs.Prelude.{◌≡◌, ◌<◌, ℕ, List, length, map, Bool, false}
use Rattle.net_core.specs.declared.raw.Gate.{Gate}
use Rattle.net_core.specs.declared.raw.RawNet.{RawNet}
use Rattle.net_core.specs.Run.{gate_bit}
use Rattle.clock_step.specs.Determined.{bit_at}
use Rattle.clock_step.specs.private.Readers.{gate_at}

-- the gate's output has the gate's function of the bits of its inputs
abbrev pub IsAtRest : RawNet → List Bool → Gate → Type 0
IsAtRest net bits gate =
    bit_at bits gate.output.0 ≡ gate_bit net gate (map (λ input. bit_at bits input.0) gate.inputs)

-- each gate that is not due is at rest
abbrev pub AreAtRest : RawNet → List ℕ → List Bool → List Bool → Type 0
AreAtRest net order due bits =
    (k : ℕ) (d : Gate) → k < length order → bit_at due k ≡ false →
    IsAtRest net bits (gate_at net order k d)
