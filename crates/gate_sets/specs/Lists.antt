-- Meaning. The rows of all covers, however they are stored.
use Rattle.std.specs.Prelude.{List}
use Rattle.net_core.specs.declared.cover.Cover.{Cover}
use Rattle.net_core.specs.Cases.{on_rows, off_rows}
use Rattle.gate_sets.specs.declared.rows.CoverRows.{CoverRows}

-- both lists of rows of each cover, by its number
pub record CoverLists : Type 0 where
  pub covers : List CoverRows

-- both lists of rows of a cover, over its inputs
abbrev pub rows_of : Cover → CoverRows
rows_of cover = record {
  on = record { width = cover.inputs; list = on_rows cover };
  off = record { width = cover.inputs; list = off_rows cover };
}
