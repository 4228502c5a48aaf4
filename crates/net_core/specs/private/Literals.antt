-- For private functions. Rows by what they ask: the literals other than -, each with its position.
use Rattle.std.specs.Prelude.{◌≡◌, ◌==◌, ℕ, ◌+◌, min, ◌++◌, ◌∷◌, [], Bool, true, not, ◌||◌, List, map, filter, Option, None, Some, if◌then◌else◌}
use Rattle.net_core.specs.declared.cover.Lit.{Lit}
use Rattle.net_core.specs.declared.literals_at.LiteralAt.{LiteralAt}
use Rattle.net_core.specs.Cover.{admits}
use Rattle.net_core.specs.Cases.{is_any}

-- what a row asks, its first literal at this position
abbrev pub literals_from : ℕ → List Lit → List LiteralAt
literals_from at [] = []
literals_from at (lit ∷ lits) =
    if is_any lit then literals_from (at + 1) lits
    else record { position = at; lit = lit } ∷ literals_from (at + 1) lits

-- what rows ask, row by row in one list
abbrev pub literals_in : List (List Lit) → List LiteralAt
literals_in [] = []
literals_in (row ∷ rows) = literals_from 0 row ++ literals_in rows

-- the least of the number and the first positions, where each row asks for a bit
abbrev pub first_position_from : ℕ → List (List LiteralAt) → Option ℕ
first_position_from least [] = Some least
first_position_from least ([] ∷ rows) = None
first_position_from least ((literal ∷ literals) ∷ rows) =
    first_position_from (min least literal.position) rows

-- the row admits the bit at this position, the first at which a row asks
abbrev pub admits_at : ℕ → Bool → List LiteralAt → Bool
admits_at position bit [] = true
admits_at position bit (literal ∷ literals) =
    not (literal.position == position) || admits literal.lit bit

-- what the row asks behind this position
abbrev pub behind_at : ℕ → List LiteralAt → List LiteralAt
behind_at position [] = []
behind_at position (literal ∷ literals) =
    if literal.position == position then literals else literal ∷ literals

-- the rows that admit the bit at this position, from behind it on
abbrev pub half_at : ℕ → Bool → List (List LiteralAt) → List (List LiteralAt)
half_at position bit rows = map (behind_at position) (filter (admits_at position bit) rows)

-- rows of literals, the first at this position, that ask just this
abbrev pub AreLiterals : ℕ → List (List Lit) → List (List LiteralAt) → Type 0
AreLiterals at rows literals = map (literals_from at) rows ≡ literals
