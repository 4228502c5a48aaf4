-- Conditions of the contracts between crates. The numbers of the nets of an instance's signals.
use Rattle.std.specs.Prelude.{◌≡◌, ◌<◌, ℕ, ◌+◌, ◌++◌, ◌∷◌, [], List, Option, None, Some, bytes_eq, find, length, map, option_map, slice_get, slice_index_or, take}
use Rattle.std.specs.List.{position_or_len}
use Rattle.blif_syntax.specs.declared.models.Model.{Model}
use Rattle.hierarchy.specs.Lines.{UseLine, signals, use_lines}
use Rattle.hierarchy.specs.Instances.{had_by, instances, model_at}
use Rattle.hierarchy.specs.Nets.{number_at}
use Rattle.instances.specs.declared.table.Row.{Row}
use Rattle.instances.specs.Table.{IsBelow}

-- the number that a word has among the numbers of these names; 0 where it is none of them
abbrev pub number_of : List (List ℕ) → List ℕ → List ℕ → ℕ
number_of names numbers word = slice_index_or numbers (position_or_len (bytes_eq word) names) 0

-- the number of the actual that is bound to a signal, where one is; `number` has those of actuals
abbrev pub bound_number : (List ℕ → ℕ) → List (List ℕ × List ℕ) → List ℕ → Option ℕ
bound_number number bindings signal =
    option_map (λ binding. number binding.1) (find (λ binding. bytes_eq binding.0 signal) bindings)

-- bound signals have the numbers of their actuals, and the others count on from a number
abbrev pub numbers_from : ℕ → List (Option ℕ) → List ℕ
numbers_from next [] = []
numbers_from next (None ∷ bounds) = next ∷ numbers_from (next + 1) bounds
numbers_from next (Some number ∷ bounds) = number ∷ numbers_from next bounds

-- the numbers of the nets of an instance's signals, by first mention
abbrev pub numbers_in : List Model → List ℕ → List ℕ
numbers_in models path =
    map (λ signal. number_at models path signal) (had_by signals (model_at models path))

-- the row stands for the instance of that path, behind rows for these paths
pub record FitsModels (models : List Model) (paths : List (List ℕ)) (row : Row) (path : List ℕ) :
    Type 0 where
  pub model : model_at models path ≡ slice_get models row.model
  pub has : row.model < length models
  pub link : IsBelow paths row.above row.number path

-- the rows stand for the instances, place by place
pub record AreRows (models : List Model) (rows : List Row) : Type 0 where
  pub long : length rows ≡ length (instances models)
  pub fits : (k : ℕ) (row : Row) (path : List ℕ) → slice_get rows k ≡ Some row →
      slice_get (instances models) k ≡ Some path →
      FitsModels models (take k (instances models)) row path

-- what is known of each model: its uses and its signals
pub record AreKnown (models : List Model) (uses : List (List UseLine))
    (names : List (List (List ℕ))) : Type 0 where
  pub uses_known : uses ≡ map use_lines models
  pub names_known : names ≡ map signals models

-- the own names of the signals of an instance that are not bound; `path` is the text of its path
abbrev pub own_names_in : List ℕ → List (List ℕ) → List (Option ℕ) → List (List ℕ)
own_names_in path [] bounds = []
own_names_in path (word ∷ words) [] = []
own_names_in path (word ∷ words) (None ∷ bounds) = (path ++ word) ∷ own_names_in path words bounds
own_names_in path (word ∷ words) (Some number ∷ bounds) = own_names_in path words bounds
