-- Meaning. The expressions that texts spell, all at once.
use Rattle.std.specs.Prelude.{ℕ, List, Option, Some, None, Bool, false, nat_lt}
use Rattle.bool_expr.specs.Grammar.{Expression, nesting, tree}
use Rattle.bool_expr.specs.Read.{Spells, number_in, place_by}
use Rattle.bool_expr.specs.Tree.{Tree, bit}

-- an expression for a text, or none
abbrev pub Parse : Type 0
Parse = List ℕ → Option Expression

-- this is what the text spells
abbrev pub IsSpelled : List ℕ → Option Expression → Type 0
IsSpelled text None = (d : Expression) → ¬ Spells d text
IsSpelled text (Some d) = Spells d text

-- each text has an expression that it spells, and none only where it spells none
abbrev pub IsParse : Parse → Type 0
IsParse parse = (text : List ℕ) → IsSpelled text (parse text)

-- the expression is nested above 100
abbrev pub is_deep : Expression → Bool
is_deep d = nat_lt 100 (nesting d)

-- the tree of what a text spells over these variables, and 0 where it spells none
abbrev pub tree_over : List (List ℕ) → Option Expression → Tree
tree_over vars None = bit false
tree_over vars (Some d) = tree (place_by (number_in vars)) d
