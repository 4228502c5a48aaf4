-- The value of an expression is that of its tree.
use Rattle.std.proofs.Common.{◌≡◌, Bool, not, List, [], ◌∷◌, map, ap, refl, sym, subst, ◌∙◌}
use Rattle.std.specs.List.{list_all, list_any}
use Rattle.bool_expr.specs.declared.expr.Expr.{Expr, map-Expr}
use Rattle.bool_expr.specs.declared.expr.Expr.TheOpen.{Expr-F, Const, Var, Not, All, Odd, Any}
use Rattle.bool_expr.specs.declared.expr.Expr.TheFolds.{fold-roll-Expr, ind-Expr}
use Rattle.bool_expr.specs.Laws.{OneTreeHasOneValue}
use Rattle.bool_expr.specs.Tree.{Tree, all_of, tree_of, tree_step}
use Rattle.bool_expr.specs.TreeValue.{tree_value, tree_values}
use Rattle.bool_expr.specs.Value.{odd_of, value_of, value_step}

-- an expression has the value of its tree
abbrev pub IsTreeValue : List Bool → Expr → Type 0
IsTreeValue bits expr = value_of expr bits ≡ tree_value bits (tree_of expr)

each_value : (bits : List Bool) (parts : List ((e : Expr) × IsTreeValue bits e)) → map (λ e. value_of e bits) (map (λ p. p.0) parts) ≡ tree_values bits (all_of (map tree_of (map (λ p. p.0) parts)))
each_value bits [] = refl
each_value bits (part ∷ parts) =
    let here = part.1 in
    let rest = each_value bits parts in
    cc

-- one layer, where each part has its tree's value
layer_value : (bits : List Bool) (parts : Expr-F ((e : Expr) × IsTreeValue bits e)) → value_step bits (map-Expr Expr Bool (λ e. value_of e bits) (map-Expr ((e : Expr) × IsTreeValue bits e) Expr (λ p. p.0) parts)) ≡ tree_value bits (tree_step (map-Expr Expr Tree tree_of (map-Expr ((e : Expr) × IsTreeValue bits e) Expr (λ p. p.0) parts)))
layer_value bits (Const b) = refl
layer_value bits (Var variable) = refl
layer_value bits (Not part) = ap not part.value.1
layer_value bits (All parts) = ap (list_all (λ b. b)) (each_value bits parts.items)
layer_value bits (Odd parts) = ap odd_of (each_value bits parts.items)
layer_value bits (Any parts) = ap (list_any (λ b. b)) (each_value bits parts.items)

pub value_is : (bits : List Bool) (expr : Expr) → IsTreeValue bits expr
value_is bits = ind-Expr (IsTreeValue bits) (λ x y is.
    let here = subst (λ (z : Expr-F Expr). value_step bits (map-Expr Expr Bool (λ e. value_of e bits) z) ≡ tree_value bits (tree_step (map-Expr Expr Tree tree_of z))) is (layer_value bits y) in
    fold-roll-Expr Bool (value_step bits) x ∙ here ∙ ap (tree_value bits) (sym (fold-roll-Expr Tree tree_step x)))

pub one_tree_has_one_value : OneTreeHasOneValue
one_tree_has_one_value one other bits same = value_is bits one ∙ ap (tree_value bits) same ∙ sym (value_is bits other)
