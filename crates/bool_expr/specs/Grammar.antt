-- Meaning. The grammar of expressions: which tree a list of tokens spells, and how deep it is
-- nested. The rules are this project's own choice.
use Rattle.std.specs.Prelude.{ℕ, suc, max, List, [], ◌∷◌, ◌++◌, Bool}
use Rattle.bool_expr.specs.declared.token.Sign.{Sign}
use Rattle.bool_expr.specs.declared.token.Sign.TheVariants.{Or, Xor, And}
use Rattle.bool_expr.specs.Tokens.{Token, sign, negation, opening, closing, constant, variable}
use Rattle.bool_expr.specs.Tree.{Tree, bit, place, opposite, tree_of_chain}

-- what a phrase is: a factor, or a chain of parts with one sign between them
pub data Level : Type 0 where
  factor : Level
  chained : Sign → Level

-- the parts of a chain: `|` stands between chains of `^`, `^` between chains of `&`, and `&`
-- between factors
abbrev pub part_of : Sign → Level
part_of Or = chained Xor
part_of Xor = chained And
part_of And = factor

-- A phrase by the rules of the grammar. An expression is a chain of `|`.
pub data Phrase : Level → Type 0 where
  -- `0` or `1`
  literal : Bool → Phrase factor
  -- a variable
  named : List ℕ → Phrase factor
  -- `! F`
  negated : Phrase factor → Phrase factor
  -- `( expression )`
  bracketed : Phrase (chained Or) → Phrase factor
  -- a chain of one part
  single : (s : Sign) → Phrase (part_of s) → Phrase (chained s)
  -- a part, the sign, and the rest of the chain
  joined : (s : Sign) → Phrase (part_of s) → Phrase (chained s) → Phrase (chained s)

abbrev pub Expression : Type 0
Expression = Phrase (chained Or)

-- the tokens of a phrase
abbrev pub spelling : {level : Level} → Phrase level → List Token
spelling (literal b) = constant b ∷ []
spelling (named word) = variable word ∷ []
spelling (negated part) = negation ∷ spelling part
spelling (bracketed part) = opening ∷ (spelling part ++ closing ∷ [])
spelling (single s part) = spelling part
spelling (joined s part rest) = spelling part ++ sign s ∷ spelling rest

-- each `!` and each pair of brackets round a part counts one
abbrev pub nesting : {level : Level} → Phrase level → ℕ
nesting (literal b) = 0
nesting (named word) = 0
nesting (negated part) = suc (nesting part)
nesting (bracketed part) = suc (nesting part)
nesting (single s part) = nesting part
nesting (joined s part rest) = max (nesting part) (nesting rest)

-- The tree of a phrase, where each variable has a number. A chain of two or more parts is one list;
-- brackets and chains of one part leave no trace.
abbrev mutual
  pub tree : {level : Level} → (List ℕ → ℕ) → Phrase level → Tree
  tree number (literal b) = bit b
  tree number (named word) = place (number word)
  tree number (negated part) = opposite (tree number part)
  tree number (bracketed part) = tree number part
  tree number (single s part) = tree number part
  tree number (joined s part rest) = tree_of_chain s (tree number part ∷ parts number rest)

  -- the trees of the parts of a chain
  pub parts : {s : Sign} → (List ℕ → ℕ) → Phrase (chained s) → List Tree
  parts number (single s part) = tree number part ∷ []
  parts number (joined s part rest) = tree number part ∷ parts number rest
