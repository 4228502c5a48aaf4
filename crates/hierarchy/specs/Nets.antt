-- Meaning. The nets of a hierarchy, their numbers, and what drives them. Each instance makes a net
-- for each of its signals that is no bound formal; a bound formal is on the net of its actual. Nets
-- are numbered in preorder of instances, and in each by first mention. Source: this project's own
-- choice.
use Rattle.std.specs.Prelude.{ℕ, ◌∷◌, [], List, Bool, not, ◌&&◌, filter, map, flat_map, bytes_eq}
use Rattle.std.specs.List.{position_or_len}
use Rattle.std.specs.Option.{option_map_or}
use Rattle.blif_syntax.specs.declared.models.Model.{Model}
use Rattle.hierarchy.specs.Lines.{DriverLine, GateLine, LatchLine, driver_lines, gate_lines, inputs_of, latch_lines, outputs_of, signals, top}
use Rattle.hierarchy.specs.Instances.{bound_to, had_by, in_instances, instances, is_bound, model_at}

-- a signal of an instance
pub record InstanceSignal : Type 0 where
  pub path : List ℕ
  pub signal : List ℕ

-- both are the same signal of the same instance
abbrev pub is_same_signal : InstanceSignal → InstanceSignal → Bool
is_same_signal one other = bytes_eq one.path other.path && bytes_eq one.signal other.signal

-- the signal that the net of a signal is made for: the signal itself, or where it is a bound formal
-- that of its actual
abbrev pub home : List Model → List ℕ → List ℕ → InstanceSignal
home models [] signal = record { path = []; signal = signal }
home models (number ∷ above) signal =
    option_map_or (λ actual. home models above actual) (bound_to models above number signal)
    (record { path = number ∷ above; signal = signal })

-- the nets that an instance makes, by first mention
abbrev pub own_nets : List Model → List ℕ → List InstanceSignal
own_nets models path =
    map (λ signal. record { path = path; signal = signal })
    (filter (λ signal. not (is_bound models path signal)) (had_by signals (model_at models path)))

-- the nets, by number
abbrev pub nets : List Model → List InstanceSignal
nets models = flat_map (λ path. own_nets models path) (instances models)

-- the number of the net of a signal of an instance
abbrev pub number_at : List Model → List ℕ → List ℕ → ℕ
number_at models path signal =
    position_or_len (λ net. is_same_signal (home models path signal) net) (nets models)

-- the gates, by number
abbrev pub gates : List Model → List (List ℕ × GateLine)
gates models = in_instances gate_lines models

-- the latches, by number
abbrev pub latches : List Model → List (List ℕ × LatchLine)
latches models = in_instances latch_lines models

-- the drivers, gates and latches alike, by instance and line
abbrev pub drivers : List Model → List (List ℕ × DriverLine)
drivers models = in_instances driver_lines models

-- the nets of the inputs of the top, and of its outputs, in the order of lines
abbrev pub input_numbers : List Model → List ℕ
input_numbers models = map (λ signal. number_at models [] signal) (inputs_of (top models))

abbrev pub output_numbers : List Model → List ℕ
output_numbers models = map (λ signal. number_at models [] signal) (outputs_of (top models))
