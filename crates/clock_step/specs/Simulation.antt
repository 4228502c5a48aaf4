-- Meaning. The run of a net on given inputs. What is not given is 0: this is this project's own
-- choice.
use Rattle.std.specs.Prelude.{◌≡◌, ◌<◌, ℕ, ◌∷◌, [], List, length, map, Bool, true, false, if◌then◌else◌, nat_eq, Some, slice_get, slice_index_or}
use Rattle.ste_base.specs.declared.id.NodeId.{NodeId}
use Rattle.net_core.specs.declared.raw.Init.{Init}
use Rattle.net_core.specs.declared.raw.Init.TheVariants.{Zero, One, Free}
use Rattle.net_core.specs.declared.raw.RawNet.{RawNet}
use Rattle.net_core.specs.OneRun.{IsGivenRun}
use Rattle.clock_step.specs.declared.inputs.Inputs.{Inputs}

-- the bit of a net in a row with a bit for each of these nodes; 0 where it is none of them
abbrev pub bit_in : List NodeId → List Bool → ℕ → Bool
bit_in [] row id = false
bit_in (node ∷ nodes) [] id = false
bit_in (node ∷ nodes) (bit ∷ row) id = if nat_eq node.0 id then bit else bit_in nodes row id

-- the bit of an input or free net at a time
abbrev pub given_bit : Inputs → ℕ → ℕ → Bool
given_bit inputs t id = bit_in inputs.nodes (slice_index_or inputs.rows t []) id

-- what a latch begins with: its initial value, and 0 for a free one
abbrev pub first_bit : Init → Bool
first_bit Zero = false
first_bit One = true
first_bit Free = false

-- what the latches begin with
abbrev pub first_bits : RawNet → List Bool
first_bits net = map (λ latch. first_bit latch.init) net.latches

-- a run on these inputs: one time for each row
abbrev pub IsSimulation : RawNet → Inputs → (ℕ → ℕ → Bool) → Type 0
IsSimulation net inputs run =
    IsGivenRun net (given_bit inputs) (first_bits net) (length inputs.rows) run

-- the bits of the outputs at one time
abbrev pub outputs_at : RawNet → (ℕ → Bool) → List Bool
outputs_at net bit = map (λ output. bit output.0) net.outputs

-- there is a run on these inputs, and these are the bits of the outputs, time by time, in each such
-- run
pub record AreOutputs (net : RawNet) (inputs : Inputs) (outputs : List (List Bool)) : Type 0 where
  pub some : (run : ℕ → ℕ → Bool) × IsSimulation net inputs run
  pub long : length outputs ≡ length inputs.rows
  pub each : (run : ℕ → ℕ → Bool) → IsSimulation net inputs run → (t : ℕ) → t < length inputs.rows →
      slice_get outputs t ≡ Some (outputs_at net (run t))
