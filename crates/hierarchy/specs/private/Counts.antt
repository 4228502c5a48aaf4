-- For private functions. What instances weigh, by models as numbers: their nets, or their sizes.
use Rattle.std.specs.Prelude.{ℕ, zero, suc, ◌+◌, ◌-◌, [], ◌∷◌, List, Option, None, Some, length, min, position, bytes_eq, slice_index_or}
use Rattle.blif_syntax.specs.declared.models.Model.{Model}
use Rattle.hierarchy.specs.declared.weights.Measure.{Measure}
use Rattle.hierarchy.specs.declared.weights.Measure.TheVariants.{Nets, Size}
use Rattle.hierarchy.specs.Lines.{UseLine, signals, use_lines}
use Rattle.hierarchy.specs.Nets.{nets}
use Rattle.hierarchy.specs.Sizes.{words_of_signals, size}

-- what the whole hierarchy has: its nets, or its size
abbrev pub measure_of : Measure → List Model → ℕ
measure_of Nets models = length (nets models)
measure_of Size models = size models

-- what a model weighs by itself: its signals; or one, and its words that name signals
abbrev pub model_weight : Measure → Model → ℕ
model_weight Nets model = length (signals model)
model_weight Size model = suc (length (words_of_signals model))

-- the same as it is kept: a size only up to the cap
abbrev pub kept_weight : Measure → ℕ → Model → ℕ
kept_weight Nets cap model = model_weight Nets model
kept_weight Size cap model = min cap (model_weight Size model)

-- what an instance weighs that a use makes, of a model of this weight: its bound formals have nets
-- of other instances
abbrev pub use_weight : Measure → ℕ → UseLine → ℕ
use_weight Nets weight used = weight - length used.bindings
use_weight Size weight used = weight

-- what is at a number; nothing where there is no number
abbrev pub at_number : (ℕ → ℕ) → Option ℕ → ℕ
at_number f None = 0
at_number f (Some k) = f k

-- what a use weighs, with the weights of models and their names, both by number
abbrev pub weight_at : Measure → List ℕ → List (List ℕ) → UseLine → ℕ
weight_at measure weights names used =
    at_number (λ k. use_weight measure (slice_index_or weights k 0) used)
    (position (bytes_eq used.model) names)

abbrev pub sum_of : {X : Type 0} → (X → ℕ) → List X → ℕ
sum_of f [] = 0
sum_of f (x ∷ xs) = f x + sum_of f xs

-- what the uses of a model weigh
abbrev pub uses_weight : Measure → List ℕ → List (List ℕ) → Model → ℕ
uses_weight measure weights names model = sum_of (weight_at measure weights names) (use_lines model)

-- what all instances weigh that lie below one of a model by at most so many levels; `own` has the
-- weights of each model's uses
abbrev pub weight_below : List (List ℕ) → List ℕ → ℕ → ℕ → ℕ
weight_below graph own zero model = 0
weight_below graph own (suc levels) model =
    slice_index_or own model 0 + sum_of (weight_below graph own levels)
    (slice_index_or graph model [])
