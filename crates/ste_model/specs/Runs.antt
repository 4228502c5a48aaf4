-- Meaning. A run as data, read as a run.
use Rattle.std.specs.Prelude.{◌≡◌, ℕ, Bool, false, [], All, length, slice_index_or}
use Rattle.ste_model.specs.declared.run.Run.{Run}

-- the bit of a run at a time and a net; where the run has none it is 0
abbrev pub run_of : Run → ℕ → ℕ → Bool
run_of run t id = slice_index_or (slice_index_or run.rows id []) t false

-- a row for each net, with one bit for each time
pub record HasRows (nets times : ℕ) (run : Run) : Type 0 where
  pub long : run.length ≡ times
  pub tall : length run.rows ≡ nets
  pub wide : All (λ row. length row ≡ times) run.rows
