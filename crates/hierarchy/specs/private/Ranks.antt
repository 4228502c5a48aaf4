-- For private functions. Numbers of models that never rise along a use.
use Rattle.std.specs.Prelude.{◌≤◌, ◌<◌, ℕ, [], List, All, length, slice_index_or}

-- the rank of each model is at least that of each that it uses
abbrev pub AreRanks : List (List ℕ) → List ℕ → Type 0
AreRanks graph ranks =
    (k : ℕ) → k < length graph →
    All (λ j. slice_index_or ranks j 0 ≤ slice_index_or ranks k 0) (slice_index_or graph k [])
