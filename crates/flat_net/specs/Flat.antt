-- Meaning. The flat net of a hierarchy. Gates and latches are numbered by instance and by line. A
-- control has no effect on its latch. Source: this project's own choice.
use Rattle.std.specs.Prelude.{◌≡◌, ℕ, List, Some, length, map, slice_get}
use Rattle.std.specs.List.{AllZip}
use Rattle.net_core.specs.declared.raw.Gate.{Gate}
use Rattle.net_core.specs.declared.raw.Latch.{Latch}
use Rattle.net_core.specs.declared.raw.RawNet.{RawNet}
use Rattle.blif_syntax.specs.declared.models.Model.{Model}
use Rattle.hierarchy.specs.Lines.{GateLine, LatchLine}
use Rattle.hierarchy.specs.Nets.{gates, input_numbers, latches, nets, number_at, output_numbers}

-- The gate of the net is that of a line in an instance. Which number its cover has is left open.
pub record IsGateOf (models : List Model) (net : RawNet) (gate : Gate) (at : List ℕ × GateLine) :
    Type 0 where
  pub output : gate.output.0 ≡ number_at models at.0 at.1.output
  pub inputs : map (λ input. input.0) gate.inputs ≡ map (λ input. number_at models at.0 input)
      at.1.inputs
  pub cover : slice_get net.covers gate.cover ≡ Some at.1.cover

-- the latch of the net is that of a line in an instance
pub record IsLatchOf (models : List Model) (latch : Latch) (at : List ℕ × LatchLine) : Type 0 where
  pub input : latch.input.0 ≡ number_at models at.0 at.1.input
  pub output : latch.output.0 ≡ number_at models at.0 at.1.output
  pub init : latch.init ≡ at.1.init

-- the net is that of the hierarchy
pub record IsFlat (models : List Model) (net : RawNet) : Type 0 where
  pub nets : net.nets ≡ length (nets models)
  pub inputs : map (λ input. input.0) net.inputs ≡ input_numbers models
  pub outputs : map (λ output. output.0) net.outputs ≡ output_numbers models
  pub gates : AllZip (IsGateOf models net) net.gates (gates models)
  pub latches : AllZip (IsLatchOf models) net.latches (latches models)
