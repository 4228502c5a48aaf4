-- Meaning. What the lines of a model say of its signals. Source: the Berkeley description of BLIF.
use Rattle.std.specs.Prelude.{ℕ, ◌++◌, ◌∷◌, [], List, Bool, true, false, map, Option, Some, None, flat_map, filter_map, option_map, option_to_list, bytes_eq}
use Rattle.indexmap.specs.IndexSet.{insert_all}
use Rattle.net_core.specs.declared.cover.Cover.{Cover}
use Rattle.net_core.specs.declared.raw.Init.{Init}
use Rattle.blif_syntax.specs.declared.models.Item.{Item}
use Rattle.blif_syntax.specs.declared.models.LatchKind.{LatchKind}
use Rattle.blif_syntax.specs.declared.models.LatchKind.TheVariants.{Plain, Rising, Falling}
use Rattle.blif_syntax.specs.declared.models.Model.{Model}
use Rattle.blif_syntax.specs.declared.models.What.{What}
use Rattle.blif_syntax.specs.declared.models.What.TheVariants.{Inputs, Outputs, Clock, Names, Latch, Subckt}

-- the top of these models: the first
abbrev pub top : List Model → Model
top [] = record { line = 0; name = []; items = [] }
top (model ∷ models) = model

-- the words in the order of first mention, each once
abbrev pub first_mentions : List (List ℕ) → List (List ℕ)
first_mentions words = insert_all bytes_eq [] words

-- the words of a line that name signals, in order
abbrev pub signal_words : What → List (List ℕ)
signal_words (Inputs names) = names
signal_words (Outputs names) = names
signal_words (Clock names) = names
signal_words (Names inputs output cover) = inputs ++ output ∷ []
signal_words (Latch input output kind control init) = input ∷ output ∷ option_to_list control
signal_words (Subckt model formals) = map (λ binding. binding.1) formals

-- the signals of a model, in the order of first mention
abbrev pub signals : Model → List (List ℕ)
signals model = first_mentions (flat_map (λ item. signal_words item.what) model.items)

-- the words of a line that are inputs of the top: those of `.inputs` and of `.clock`
abbrev pub input_words : What → List (List ℕ)
input_words (Inputs names) = names
input_words (Clock names) = names
input_words other = []

-- the inputs of a model, in the order of lines, each once
abbrev pub inputs_of : Model → List (List ℕ)
inputs_of model = first_mentions (flat_map (λ item. input_words item.what) model.items)

-- the words of a line that are outputs
abbrev pub output_words : What → List (List ℕ)
output_words (Outputs names) = names
output_words other = []

-- the outputs of a model, in the order of lines, each once
abbrev pub outputs_of : Model → List (List ℕ)
outputs_of model = first_mentions (flat_map (λ item. output_words item.what) model.items)

-- a gate as a line gives it
pub record GateLine : Type 0 where
  pub inputs : List (List ℕ)
  pub output : List ℕ
  pub cover : Cover

abbrev pub gate_of : What → Option GateLine
gate_of (Names inputs output cover) =
    Some (record { inputs = inputs; output = output; cover = cover })
gate_of other = None

-- the gates of a model, by line
abbrev pub gate_lines : Model → List GateLine
gate_lines model = filter_map (λ item. gate_of item.what) model.items

-- a latch as a line gives it
pub record LatchLine : Type 0 where
  pub input : List ℕ
  pub output : List ℕ
  pub kind : LatchKind
  pub control : Option (List ℕ)
  pub init : Init

abbrev pub latch_of : What → Option LatchLine
latch_of (Latch input output kind control init) =
    Some (record { input = input; output = output; kind = kind; control = control; init = init })
latch_of other = None

-- the latches of a model, by line
abbrev pub latch_lines : Model → List LatchLine
latch_lines model = filter_map (λ item. latch_of item.what) model.items

-- whether a latch's type is `re`, where it has one
abbrev pub is_rising : LatchKind → Option Bool
is_rising Plain = None
is_rising Rising = Some true
is_rising Falling = Some false

-- the words of a line that are formals of its model
abbrev pub formal_words : What → List (List ℕ)
formal_words (Inputs names) = names
formal_words (Clock names) = names
formal_words (Outputs names) = names
formal_words other = []

-- the formals of a model
abbrev pub formals_of : Model → List (List ℕ)
formals_of model = first_mentions (flat_map (λ item. formal_words item.what) model.items)

-- the words of a line that each use of its model has to bind
abbrev pub needed_words : What → List (List ℕ)
needed_words (Inputs names) = names
needed_words other = []

-- the formals that each use of a model has to bind, in order, each once
abbrev pub needed_formals : Model → List (List ℕ)
needed_formals model = first_mentions (flat_map (λ item. needed_words item.what) model.items)

-- a use of a model, as a line gives it: each formal that it binds with its actual
pub record UseLine : Type 0 where
  pub line : ℕ
  pub model : List ℕ
  pub bindings : List (List ℕ × List ℕ)

abbrev pub use_on : ℕ → What → Option UseLine
use_on line (Subckt model formals) =
    Some (record { line = line; model = model; bindings = formals })
use_on line other = None

abbrev pub use_of : Item → Option UseLine
use_of item = use_on item.line item.what

-- the uses of models in a model, by line
abbrev pub use_lines : Model → List UseLine
use_lines model = filter_map use_of model.items

-- a line that drives a signal: a gate or a latch
pub record DriverLine : Type 0 where
  pub line : ℕ
  pub output : List ℕ

abbrev pub driver_on : ℕ → What → Option DriverLine
driver_on line (Names inputs output cover) = Some (record { line = line; output = output })
driver_on line (Latch input output kind control init) =
    Some (record { line = line; output = output })
driver_on line other = None

abbrev pub driver_of : Item → Option DriverLine
driver_of item = driver_on item.line item.what

-- the drivers of a model, gates and latches alike, by line
abbrev pub driver_lines : Model → List DriverLine
driver_lines model = filter_map driver_of model.items

-- the latches of a model with the numbers of their lines, by line
abbrev pub numbered_latches : Model → List (ℕ × LatchLine)
numbered_latches model =
    filter_map (λ item. option_map (λ latch. (item.line, latch)) (latch_of item.what)) model.items
