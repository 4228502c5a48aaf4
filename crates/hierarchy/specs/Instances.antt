-- Meaning. The instances of a hierarchy. An instance is its path: the numbers of the uses that lead
-- to it from the top, the innermost first, so that the tail of a path is the instance above.
-- Source: the Berkeley description of BLIF; the order of instances is this project's own choice.
use Rattle.std.specs.Prelude.{ℕ, suc, zero, ◌∷◌, [], List, Option, None, Some, Bool, false, is_some, slice_get, find, flat_map, map, position, bytes_eq, option_map, option_and_then}
use Rattle.std.specs.List.{enumerate_from}
use Rattle.blif_syntax.specs.declared.models.Model.{Model}
use Rattle.hierarchy.specs.Lines.{UseLine, use_lines}

-- the names of models, in order
abbrev pub model_names : List Model → List (List ℕ)
model_names models = map (λ model. model.name) models

-- the number of the first model of that name
abbrev pub number_named : List Model → List ℕ → Option ℕ
number_named models name = position (bytes_eq name) (model_names models)

-- the first model of that name
abbrev pub model_named : List Model → List ℕ → Option Model
model_named models name = option_and_then (slice_get models) (number_named models name)

-- the use of that number in a model
abbrev pub use_at : Option Model → ℕ → Option UseLine
use_at None number = None
use_at (Some model) number = slice_get (use_lines model) number

-- the model of an instance, where there is such an instance
abbrev pub model_at : List Model → List ℕ → Option Model
model_at models [] = slice_get models 0
model_at models (number ∷ above) =
    option_and_then (λ used. model_named models used.model) (use_at (model_at models above) number)

-- the actual that a use binds to a formal
abbrev pub actual_of : UseLine → List ℕ → Option (List ℕ)
actual_of used formal =
    option_map (λ binding. binding.1) (find (λ binding. bytes_eq binding.0 formal) used.bindings)

-- the actual, a signal of the instance above, that is bound to a signal of its subcircuit of that
-- number
abbrev pub bound_to : List Model → List ℕ → ℕ → List ℕ → Option (List ℕ)
bound_to models above number signal =
    option_and_then (λ used. actual_of used signal) (use_at (model_at models above) number)

-- the signal of an instance is a bound formal; the top has none
abbrev pub is_bound : List Model → List ℕ → List ℕ → Bool
is_bound models [] signal = false
is_bound models (number ∷ above) signal = is_some (bound_to models above number signal)

-- an instance and those below it, in preorder, with at most this many numbers more than its path
-- less one
abbrev pub instances_below : List Model → ℕ → List ℕ → Option Model → List (List ℕ)
instances_below models zero path model = []
instances_below models (suc depth) path None = []
instances_below models (suc depth) path (Some model) =
    path ∷ flat_map (λ at. instances_below models depth (at.0 ∷ path)
    (model_named models at.1.model))
    (enumerate_from 0 (use_lines model))

-- the instances, in preorder: those whose paths have at most 64 numbers
abbrev pub instances : List Model → List (List ℕ)
instances models = instances_below models 65 [] (slice_get models 0)

-- what a model has; nothing where there is no model
abbrev pub had_by : {X : Type 0} → (Model → List X) → Option Model → List X
had_by had None = []
had_by had (Some model) = had model

-- what the models of all instances have, each with its instance, in preorder of instances
abbrev pub in_instances : {X : Type 0} → (Model → List X) → List Model → List (List ℕ × X)
in_instances had models =
    flat_map (λ path. map (λ item. (path, item)) (had_by had (model_at models path)))
    (instances models)
