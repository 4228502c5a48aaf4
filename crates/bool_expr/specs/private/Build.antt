-- For private functions. How the tree of a list of tokens is put together in one pass, with the
-- open brackets in a list. That it is the tree of the grammar is proved.
use Rattle.std.specs.Prelude.{ℕ, zero, suc, List, [], ◌∷◌, ◌++◌, map}
use Rattle.bool_expr.specs.declared.token.Sign.{Sign}
use Rattle.bool_expr.specs.declared.token.Sign.TheVariants.{Or, Xor, And}
use Rattle.bool_expr.specs.declared.build.Inner.{Inner}
use Rattle.bool_expr.specs.declared.build.Build.{Build}
use Rattle.bool_expr.specs.Tokens.{Token, sign, negation, opening, closing, constant, variable, wrong}
use Rattle.bool_expr.specs.Tree.{Tree, bit, place, opposite, tree_of_chain, tree_of}

-- what stands in a bracket so far: the `!` before the next factor, and the parts of the chains that
-- are open
pub record OpenBracket : Type 0 where
  pub signs : ℕ
  pub any : List Tree
  pub odd : List Tree
  pub all : List Tree

-- what stands in the innermost open bracket, and in those round it, from inside to outside
pub record OpenBrackets : Type 0 where
  pub inner : OpenBracket
  pub outer : List OpenBracket

-- the same without where it lies in memory
abbrev pub bracket_of : Inner → OpenBracket
bracket_of inner =
    record {
      signs = inner.signs;
      any = map tree_of inner.any.items;
      odd = map tree_of inner.odd.items;
      all = map tree_of inner.all.items;
    }

abbrev pub brackets_of : Build → OpenBrackets
brackets_of build =
    record { inner = bracket_of build.inner; outer = map bracket_of build.outer.items }

abbrev pub nothing : OpenBracket
nothing = record { signs = 0; any = []; odd = []; all = [] }

-- the tree behind so many `!`
abbrev pub behind_signs : ℕ → Tree → Tree
behind_signs zero part = part
behind_signs (suc n) part = behind_signs n (opposite part)

abbrev pub with_factor : Tree → OpenBracket → OpenBracket
with_factor part o =
    record { signs = 0; any = o.any; odd = o.odd; all = o.all ++ behind_signs o.signs part ∷ [] }

-- the parts of the chain of `^` with the one that is open, and those of the chain of `|`
abbrev pub odd_parts : OpenBracket → List Tree
odd_parts o = o.odd ++ tree_of_chain And o.all ∷ []

abbrev pub any_parts : OpenBracket → List Tree
any_parts o = o.any ++ tree_of_chain Xor (odd_parts o) ∷ []

abbrev pub with_sign : Sign → OpenBracket → OpenBracket
with_sign Or o = record { signs = 0; any = any_parts o; odd = []; all = [] }
with_sign Xor o = record { signs = 0; any = o.any; odd = odd_parts o; all = [] }
with_sign And o = record { signs = 0; any = o.any; odd = o.odd; all = o.all }

abbrev pub tree_in_bracket : OpenBracket → Tree
tree_in_bracket o = tree_of_chain Or (any_parts o)

-- behind a closing bracket
abbrev pub behind_closing : OpenBrackets → List OpenBracket → OpenBrackets
behind_closing b [] = b
behind_closing b (o ∷ outer) =
    record { inner = with_factor (tree_in_bracket b.inner) o; outer = outer }

-- one more token
abbrev pub turn : (List ℕ → ℕ) → OpenBrackets → Token → OpenBrackets
turn number b (sign s) = record { inner = with_sign s b.inner; outer = b.outer }
turn number b negation =
    record {
      inner = record {
        signs = suc b.inner.signs;
        any = b.inner.any;
        odd = b.inner.odd;
        all = b.inner.all;
      };
      outer = b.outer;
    }
turn number b opening = record { inner = nothing; outer = b.inner ∷ b.outer }
turn number b closing = behind_closing b b.outer
turn number b (constant v) = record { inner = with_factor (bit v) b.inner; outer = b.outer }
turn number b (variable word) =
    record { inner = with_factor (place (number word)) b.inner; outer = b.outer }
turn number b wrong = b

-- the tree of the tokens from here on
abbrev pub build_from : (List ℕ → ℕ) → OpenBrackets → List Token → Tree
build_from number b [] = tree_in_bracket b.inner
build_from number b (token ∷ tokens) = build_from number (turn number b token) tokens

abbrev pub build_start : OpenBrackets
build_start = record { inner = nothing; outer = [] }
