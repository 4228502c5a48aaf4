-- Meaning. Lists of rows, however they are stored.
use Rattle.std.specs.Prelude.{ℕ, List}
use Rattle.net_core.specs.declared.cover.Lit.{Lit}

-- a list of rows over so many inputs
pub record Rows : Type 0 where
  pub width : ℕ
  pub list : List (List Lit)
