-- For private functions. Pairs of lists by number.
use Rattle.std.specs.Prelude.{ℕ, List, [], slice_index_or}
use Rattle.gate_sets.specs.declared.rows.CoverRows.{CoverRows}

-- the pair with this number, or one without rows
abbrev pub kind_at : List CoverRows → ℕ → CoverRows
kind_at kinds k =
    slice_index_or kinds k (record {
      on = record { width = 0; list = [] };
      off = record { width = 0; list = [] };
    })
