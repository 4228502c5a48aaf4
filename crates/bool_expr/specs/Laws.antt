-- Laws of the texts and trees of expressions.
use Rattle.std.specs.Prelude.{ℕ, ◌≡◌, Bool, List}
use Rattle.bool_expr.specs.declared.expr.Expr.{Expr}
use Rattle.bool_expr.specs.Grammar.{Expression, nesting, tree}
use Rattle.bool_expr.specs.Read.{Spells}
use Rattle.bool_expr.specs.Tree.{IsFull, tree_of}
use Rattle.bool_expr.specs.Value.{value_of}

-- one text spells at most one tree, however the variables are numbered, and has one nesting
abbrev pub OneTextSpellsOneTree : Type 0
OneTextSpellsOneTree =
    (text : List ℕ) (one other : Expression) → Spells one text → Spells other text →
    (nesting one ≡ nesting other) × ((number : List ℕ → ℕ) → tree number one ≡ tree number other)

-- expressions with one tree have one value under each assignment
abbrev pub OneTreeHasOneValue : Type 0
OneTreeHasOneValue = (one other : Expr) (bits : List Bool) → tree_of one ≡ tree_of other →
    value_of one bits ≡ value_of other bits

-- each list of a tree that is spelled has two or more parts
abbrev pub TreesAreFull : Type 0
TreesAreFull = (number : List ℕ → ℕ) (d : Expression) → IsFull (tree number d)
