-- Meaning. How deep and how large a hierarchy is, and the limits. Source: this project's own
-- choice.
use Rattle.std.specs.Prelude.{◌≡◌, ◌<◌, ◌≤◌, ◌⊎◌, ℕ, suc, List, Some, length, flat_map, sum_by}
use Rattle.blif_syntax.specs.declared.models.Model.{Model}
use Rattle.hierarchy.specs.Lines.{signal_words}
use Rattle.hierarchy.specs.Instances.{had_by, instances, model_at}
use Rattle.hierarchy.specs.Nets.{nets}

-- the words of a model's lines that name signals, each as often as it stands there
abbrev pub words_of_signals : Model → List (List ℕ)
words_of_signals model = flat_map (λ item. signal_words item.what) model.items

-- the size: over all instances one, and one for each word that names a signal
abbrev pub size : List Model → ℕ
size models = sum_by (λ path. suc (length (had_by words_of_signals (model_at models path))))
    (instances models)

-- some instance's path has more than 64 numbers
pub record IsTooDeep (models : List Model) : Type 0 where
  pub path : List ℕ
  pub model : Model
  pub instance : model_at models path ≡ Some model
  pub deep : 64 < length path

-- there are more than 200,000 nets, or the size is above 4,000,000
abbrev pub AreTooLarge : List Model → Type 0
AreTooLarge models = (200000 < length (nets models)) ⊎ (4000000 < size models)

-- no instance's path has more than 64 numbers
abbrev pub IsShallow : List Model → Type 0
IsShallow models = (path : List ℕ) (model : Model) → model_at models path ≡ Some model →
    length path ≤ 64
