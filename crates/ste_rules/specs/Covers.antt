-- Meaning. Which quintuples cover others, decided.
use Rattle.std.specs.Prelude.{List, Bool, true, false, not, ◌&&◌, ◌||◌, nat_eq, nat_le}
use Rattle.std.specs.List.{list_all, list_any}
use Rattle.bool_expr.specs.declared.token.Sign.{Sign}
use Rattle.bool_expr.specs.declared.token.Sign.TheVariants.{Or, Xor, And}
use Rattle.bool_expr.specs.Tree.{Tree, Trees, bit, place, opposite, under, none, more}
use Rattle.ste_model.specs.Trees.{QuintTree}

-- two bits are the same
abbrev pub is_same_bit : Bool → Bool → Bool
is_same_bit true b = b
is_same_bit false b = not b

-- two signs are the same
abbrev pub is_same_sign : Sign → Sign → Bool
is_same_sign Or Or = true
is_same_sign Xor Xor = true
is_same_sign And And = true
is_same_sign one other = false

-- two trees are the same, and so are two lists of trees
abbrev mutual
  pub is_same_tree : Tree → Tree → Bool
  is_same_tree (bit a) (bit b) = is_same_bit a b
  is_same_tree (place m) (place n) = nat_eq m n
  is_same_tree (opposite one) (opposite other) = is_same_tree one other
  is_same_tree (under s ones) (under t others) =
      is_same_sign s t && are_same_trees ones others
  is_same_tree one other = false

  pub are_same_trees : Trees → Trees → Bool
  are_same_trees none none = true
  are_same_trees (more one ones) (more other others) =
      is_same_tree one other && are_same_trees ones others
  are_same_trees ones others = false

-- the first quintuple says the same as the second, of at least its times
abbrev pub covers : QuintTree → QuintTree → Bool
covers other quint =
    nat_eq other.node quint.node && (nat_le other.from quint.from && (nat_le quint.to other.to
    && (is_same_tree other.value quint.value && is_same_tree other.guard quint.guard)))

-- a quintuple has no time, or one of these or of those covers it
abbrev pub is_covered : List QuintTree → List QuintTree → QuintTree → Bool
is_covered these those quint =
    nat_eq quint.from quint.to || (list_any (λ other. covers other quint) these
    || list_any (λ other. covers other quint) those)

-- each of these quintuples is covered
abbrev pub are_covered : List QuintTree → List QuintTree → List QuintTree → Bool
are_covered these those quints = list_all (is_covered these those) quints
