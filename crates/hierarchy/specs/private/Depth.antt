-- For private functions. Whether steps of uses lead on from a model.
use Rattle.std.specs.Prelude.{ℕ, zero, suc, [], List, Bool, true, slice_index_or}
use Rattle.std.specs.List.{list_any}

-- this many steps lead on from a model
abbrev pub has_steps : List (List ℕ) → ℕ → ℕ → Bool
has_steps graph zero model = true
has_steps graph (suc steps) model = list_any (has_steps graph steps) (slice_index_or graph model [])
