-- Meaning. Which models a model reaches by uses. Models are numbers, from 0 on; the top is 0.
use Rattle.std.specs.Prelude.{◌≡◌, ℕ, ◌∷◌, [], List, Option, Some, filter_map, map, slice_get, slice_index_or, option_and_then}
use Rattle.blif_syntax.specs.declared.models.Model.{Model}
use Rattle.hierarchy.specs.Lines.{use_lines}
use Rattle.hierarchy.specs.Instances.{number_named}

-- the numbers of the models that a model uses, by line; a name that no model has is left out
abbrev pub used_by : List Model → Model → List ℕ
used_by models model = filter_map (λ used. number_named models used.model) (use_lines model)

-- the numbers of the models that each model uses
abbrev pub uses : List Model → List (List ℕ)
uses models = map (used_by models) models

-- the model that steps from a model to one that it uses lead to, the last step first
abbrev pub led_to : List (List ℕ) → ℕ → List ℕ → Option ℕ
led_to graph from [] = Some from
led_to graph from (step ∷ earlier) =
    option_and_then (λ model. slice_get (slice_index_or graph model []) step)
    (led_to graph from earlier)

-- a model reaches a model: some steps lead from the one to the other; each reaches itself
abbrev pub Reaches : List (List ℕ) → ℕ → ℕ → Type 0
Reaches graph from to = (steps : List ℕ) × (led_to graph from steps ≡ Some to)
