-- Meaning. The tree of an expression, without where it lies in memory.
use Rattle.std.specs.Prelude.{ℕ, List, [], ◌∷◌, Bool}
use Rattle.bool_expr.specs.declared.token.Sign.{Sign}
use Rattle.bool_expr.specs.declared.token.Sign.TheVariants.{Or, Xor, And}
use Rattle.bool_expr.specs.declared.expr.Expr.{Expr}
use Rattle.bool_expr.specs.declared.expr.Expr.TheOpen.{Expr-F, Const, Var, Not, All, Odd, Any}
use Rattle.bool_expr.specs.declared.expr.Expr.TheFolds.{fold-Expr}

-- a constant, a variable by its number, the opposite of a tree, or trees under one sign
mutual
  pub data Tree : Type 0 where
    bit : Bool → Tree
    place : ℕ → Tree
    opposite : Tree → Tree
    under : Sign → Trees → Tree

  pub data Trees : Type 0 where
    none : Trees
    more : Tree → Trees → Trees

abbrev pub all_of : List Tree → Trees
all_of [] = none
all_of (part ∷ parts) = more part (all_of parts)

-- the tree of a chain: its only part, or all its parts under the sign
abbrev pub tree_of_chain : Sign → List Tree → Tree
tree_of_chain s (part ∷ []) = part
tree_of_chain s parts = under s (all_of parts)

-- one step of an expression, with the tree of each part in the part's place
abbrev pub tree_step : Expr-F Tree → Tree
tree_step (Const b) = bit b
tree_step (Var variable) = place variable.0
tree_step (Not part) = opposite part.value
tree_step (All parts) = under And (all_of parts.items)
tree_step (Odd parts) = under Xor (all_of parts.items)
tree_step (Any parts) = under Or (all_of parts.items)

-- the tree that an expression is
abbrev pub tree_of : Expr → Tree
tree_of expr = fold-Expr Tree tree_step expr

-- there are two or more trees
abbrev pub AreTwoOrMore : Trees → Type 0
AreTwoOrMore none = ⊥
AreTwoOrMore (more part none) = ⊥
AreTwoOrMore (more one (more other parts)) = Unit {0}

-- each list of the tree has two or more parts
abbrev mutual
  pub IsFull : Tree → Type 0
  IsFull (bit b) = Unit {0}
  IsFull (place n) = Unit {0}
  IsFull (opposite part) = IsFull part
  IsFull (under sign parts) = AreTwoOrMore parts × AreFull parts

  pub AreFull : Trees → Type 0
  AreFull none = Unit {0}
  AreFull (more part parts) = IsFull part × AreFull parts
