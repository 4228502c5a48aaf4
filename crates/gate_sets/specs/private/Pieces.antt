-- For private functions. Lists of rows as pieces: each row by what it shares with the row before.
use Rattle.std.specs.Prelude.{◌≡◌, ℕ, ◌+◌, ◌-◌, ◌&&◌, nat_lt, Bool, true, false, not, List, [], ◌∷◌, ◌++◌, length, take, replicate}
use Rattle.net_core.specs.declared.cover.Lit.{Lit}
use Rattle.net_core.specs.declared.cover.Lit.TheVariants.{Any}
use Rattle.gate_sets.specs.declared.piece.Piece.{Piece}
use Rattle.gate_sets.specs.declared.piece.Piece.TheVariants.{Put, Close}

-- the row that begins with these literals and has only - behind them
abbrev pub padded : ℕ → List Lit → List Lit
padded width begun = begun ++ replicate (width - length begun) Any

-- the rows that pieces give, where a row has begun with these literals: a literal goes on with the
-- row, and an end leaves so many of its literals for the next row
abbrev pub rows_from : ℕ → List Lit → List Piece → List (List Lit)
rows_from width begun [] = []
rows_from width begun (Put lit ∷ rest) = rows_from width (begun ++ lit ∷ []) rest
rows_from width begun (Close kept ∷ rest) =
    padded width begun ∷ rows_from width (take kept begun) rest

-- whether pieces go on soundly where n literals have begun a row: no row is wider than the inputs,
-- an end leaves no more than there is, and behind a literal an end comes
abbrev pub are_sound : ℕ → ℕ → Bool → List Piece → Bool
are_sound width n awaits [] = not awaits
are_sound width n awaits (Put lit ∷ rest) = nat_lt n width && are_sound width (n + 1) true rest
are_sound width n awaits (Close kept ∷ rest) =
    nat_lt kept (n + 1) && are_sound width kept false rest

-- Whatever pieces follow these: the rows are those that are done and then those that follow from a
-- row begun so, and where they go on soundly, all are sound.
pub record LeadTo (width : ℕ) (pieces : List Piece) (done : List (List Lit)) (begun : List Lit)
    (awaits : Bool) : Type 0 where
  pub rows : (rest : List Piece) →
      rows_from width [] (pieces ++ rest) ≡ done ++ rows_from width begun rest
  pub sound : (rest : List Piece) → are_sound width (length begun) awaits rest ≡ true →
      are_sound width 0 false (pieces ++ rest) ≡ true
