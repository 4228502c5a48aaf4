-- Meaning. The value of a tree under an assignment: a bit for each variable, in the order of
-- declaration. An expression has the value of its tree.
use Rattle.std.specs.Prelude.{Bool, false, not, List, [], ◌∷◌, slice_index_or}
use Rattle.std.specs.List.{list_all, list_any}
use Rattle.bool_expr.specs.declared.token.Sign.{Sign}
use Rattle.bool_expr.specs.declared.token.Sign.TheVariants.{Or, Xor, And}
use Rattle.bool_expr.specs.Tree.{Tree, Trees, bit, place, opposite, under, none, more}
use Rattle.bool_expr.specs.Value.{odd_of}

-- the bit that trees with these bits have under a sign
abbrev pub sign_value : Sign → List Bool → Bool
sign_value And bits = list_all (λ b. b) bits
sign_value Xor bits = odd_of bits
sign_value Or bits = list_any (λ b. b) bits

-- the value of a tree, and those of trees in a row
abbrev mutual
  pub tree_value : List Bool → Tree → Bool
  tree_value bits (bit b) = b
  tree_value bits (place n) = slice_index_or bits n false
  tree_value bits (opposite part) = not (tree_value bits part)
  tree_value bits (under s parts) = sign_value s (tree_values bits parts)

  pub tree_values : List Bool → Trees → List Bool
  tree_values bits none = []
  tree_values bits (more part parts) = tree_value bits part ∷ tree_values bits parts
