-- For private functions. What drives nets, and what clocks latches, instance by instance.
use Rattle.std.specs.Prelude.{ℕ, ◌∷◌, ◌||◌, [], List, Bool, true, false, Option, None, Some, if◌then◌else◌, map, nat_eq, option_map, slice_index_or, slice_set}
use Rattle.std.specs.Bool.{beq}
use Rattle.std.specs.Option.{option_or}
use Rattle.ste_base.specs.declared.id.NodeId.{NodeId}
use Rattle.hierarchy.specs.declared.fault.NetFault.{NetFault}
use Rattle.hierarchy.specs.declared.fault.NetFault.TheVariants.{DrivenTwice, MixedClocks}
use Rattle.hierarchy.specs.Faults.{are_apart}
use Rattle.hierarchy.specs.Lines.{DriverLine, LatchLine, driver_lines, is_rising, numbered_latches}
use Rattle.flat_net.specs.declared.clocks.Clock.{Clock}
use Rattle.flat_net.specs.declared.clocks.Clocks.{Clocks}
use Rattle.flat_net.specs.private.Passes.{Instance, node_in}

-- a driver: its line, and the number of its net
pub record Driver : Type 0 where
  pub line : ℕ
  pub net : ℕ

-- the driver of a line
abbrev pub driver_at : Instance → DriverLine → Driver
driver_at instance at = record { line = at.line; net = (node_in instance at.output).0 }

-- those of an instance, by line
abbrev pub drivers_in : Instance → List Driver
drivers_in instance = map (driver_at instance) (driver_lines instance.model)

-- marks with those of these nets
abbrev pub marks_with : List Bool → List NodeId → List Bool
marks_with marks [] = marks
marks_with marks (node ∷ nodes) = marks_with (slice_set marks node.0 true) nodes

-- the first driver of a net that is marked, or has an earlier driver
abbrev pub first_driven_twice : List Bool → List Driver → Option Driver
first_driven_twice marks [] = None
first_driven_twice marks (driver ∷ drivers) =
    if slice_index_or marks driver.net false then Some driver
    else first_driven_twice (slice_set marks driver.net true) drivers

-- the fault of it
abbrev pub driven_fault : List (List ℕ) → Driver → NetFault
driven_fault names driver = DrivenTwice driver.line (slice_index_or names driver.net [])

-- the latch of a line: its type, and the numbers of its output's net and its control's, where it
-- has these
abbrev pub clock_at : Instance → ℕ × LatchLine → Clock
clock_at instance at = record {
  line = at.0;
  net = (node_in instance at.1.output).0;
  rising = is_rising at.1.kind;
  control = option_map (λ control. (node_in instance control).0) at.1.control;
}

-- those of an instance, by line
abbrev pub clocks_in : Instance → List Clock
clocks_in instance = map (clock_at instance) (numbered_latches instance.model)

-- no latch came before
abbrev pub no_clocks : Clocks
no_clocks = record { rising = None; control = None }

-- the latch has another type, or another control, than what came before
abbrev pub mixes : Clocks → Clock → Bool
mixes clocks latch = are_apart beq clocks.rising latch.rising
    || are_apart nat_eq clocks.control latch.control

-- what there is with one more latch
abbrev pub clocks_with : Clocks → Clock → Clocks
clocks_with clocks latch =
    record {
      rising = option_or clocks.rising latch.rising;
      control = option_or clocks.control latch.control;
    }

-- the first latch that has another type, or another control, than what came before
abbrev pub first_mixed : Clocks → List Clock → Option Clock
first_mixed clocks [] = None
first_mixed clocks (latch ∷ latches) =
    if mixes clocks latch then Some latch else first_mixed (clocks_with clocks latch) latches

-- the fault of it
abbrev pub mixed_fault : List (List ℕ) → Clock → NetFault
mixed_fault names latch = MixedClocks latch.line (slice_index_or names latch.net [])
