-- Meaning. How large trees and claims are, and which are too large. The limits are this project's
-- own choice.
use Rattle.std.specs.Prelude.{ℕ, suc, ◌+◌, ◌∷◌, [], List, Bool, ◌&&◌, max, nat_le}
use Rattle.std.specs.List.{list_all}
use Rattle.ste_base.specs.Limits.{most_time}
use Rattle.bool_expr.specs.Tree.{Tree, Trees, bit, place, opposite, under, none, more}
use Rattle.ste_model.specs.Trees.{QuintTree}
use Rattle.rule_model.specs.Claims.{Claim}

-- the constants, the occurrences of variables and the signs of a tree
abbrev mutual
  pub tree_items : Tree → ℕ
  tree_items (bit b) = 1
  tree_items (place n) = 1
  tree_items (opposite part) = suc (tree_items part)
  tree_items (under s parts) = list_items parts

  -- those of trees with a sign between two of them
  pub list_items : Trees → ℕ
  list_items none = 0
  list_items (more part parts) = tree_items part + signed_items parts

  -- those of trees with a sign before each
  pub signed_items : Trees → ℕ
  signed_items none = 0
  signed_items (more part parts) = suc (tree_items part) + signed_items parts

-- the levels of a tree: one, and one more for each `!` and each list round a constant or variable
abbrev mutual
  pub tree_levels : Tree → ℕ
  tree_levels (bit b) = 1
  tree_levels (place n) = 1
  tree_levels (opposite part) = suc (tree_levels part)
  tree_levels (under s parts) = suc (most_levels parts)

  -- the most levels of these trees
  pub most_levels : Trees → ℕ
  most_levels none = 0
  most_levels (more part parts) = max (tree_levels part) (most_levels parts)

-- the items of quintuples: those of their guards and values
abbrev pub quints_items : List QuintTree → ℕ
quints_items [] = 0
quints_items (quint ∷ quints) =
    tree_items quint.guard + (tree_items quint.value + quints_items quints)

-- a quintuple has at most 1,000 levels, and no time above the greatest
abbrev pub quint_fits : QuintTree → Bool
quint_fits quint =
    nat_le (tree_levels quint.guard) 1000 && (nat_le (tree_levels quint.value) 1000
    && (nat_le quint.from most_time && nat_le quint.to most_time))

-- so has each quintuple of a claim, and together they have at most 20,000 items
abbrev pub claim_fits : Claim → Bool
claim_fits claim =
    list_all quint_fits claim.ant && (list_all quint_fits claim.con
    && nat_le (quints_items claim.ant + quints_items claim.con) 20000)
