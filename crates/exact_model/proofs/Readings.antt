-- An expression that reads the first variables alone has the same value whatever stands behind them.
use Rattle.std.proofs.Common.{◌≡◌, ℕ, ◌<◌, Bool, true, false, not, List, [], ◌∷◌, ◌++◌, map, length, refl, sym, ◌∙◌, ap, subst}
use Rattle.std.specs.Prelude.{IsTrue, slice_index_or}
use Rattle.std.specs.List.{list_all, list_any}
use Rattle.std.proofs.Common.{arith}
use Rattle.std.proofs.lemmas.Bool.{and_parts}
use Rattle.std.proofs.lemmas.List.{get_or_append_left}
use Rattle.bool_expr.specs.declared.expr.Expr.{Expr, map-Expr, roll-Expr}
use Rattle.bool_expr.specs.declared.expr.Expr.TheOpen.{Expr-F, Const, Var, Not, All as Every, Odd, Any}
use Rattle.bool_expr.specs.declared.expr.Expr.TheFolds.{fold-roll-Expr, ind-Expr}
use Rattle.bool_expr.specs.Value.{odd_of, value_of, value_step}
use Rattle.ste_model.specs.Expressions.{reads, reads_step}

module _ (vars : ℕ) (a b : List Bool) (same : (k : ℕ) → k < vars → slice_index_or a k false ≡ slice_index_or b k false) where
  abbrev IsKept : Expr → Type 0
  IsKept e = IsTrue (reads vars e) → value_of e a ≡ value_of e b

  abbrev Part : Type 0
  Part = (e : Expr) × IsKept e

  abbrev expr_of : Part → Expr
  expr_of part = part.0

  each : (parts : List Part) → list_all (λ b. b) (map (reads vars) (map expr_of parts)) ≡ true → map (λ e. value_of e a) (map expr_of parts) ≡ map (λ e. value_of e b) (map expr_of parts)
  each [] h = refl
  each (part ∷ parts) h =
      let p = and_parts (reads vars part.0) (list_all (λ b. b) (map (reads vars) (map expr_of parts))) h in
      let here = part.1 p.0 in
      let rest = each parts p.1 in
      cc

  layer : (y : Expr-F Part) → IsTrue (reads_step vars (map-Expr Expr Bool (reads vars) (map-Expr Part Expr expr_of y))) → value_step a (map-Expr Expr Bool (λ e. value_of e a) (map-Expr Part Expr expr_of y)) ≡ value_step b (map-Expr Expr Bool (λ e. value_of e b) (map-Expr Part Expr expr_of y))
  layer (Const bit) h = refl
  layer (Var variable) h = same variable.0 (grind (arith, h))
  layer (Not part) h = ap not (part.value.1 h)
  layer (Every parts) h = ap (list_all (λ b. b)) (each parts.items h)
  layer (Odd parts) h = ap odd_of (each parts.items h)
  layer (Any parts) h = ap (list_any (λ b. b)) (each parts.items h)

  roll_kept : (y : Expr-F Part) → IsKept (roll-Expr (map-Expr Part Expr expr_of y))
  roll_kept y h =
      let z : Expr-F Expr = map-Expr Part Expr expr_of y in
      fold-roll-Expr Bool (value_step a) z ∙ layer y (sym (fold-roll-Expr Bool (reads_step vars) z) ∙ h) ∙ sym (fold-roll-Expr Bool (value_step b) z)

  pub value_kept : (e : Expr) → IsKept e
  value_kept = ind-Expr IsKept (λ x y is. subst (λ (z : Expr-F Expr). IsKept (roll-Expr z)) is (roll_kept y))

pub value_before : (vars : ℕ) (bits rest : List Bool) → length bits ≡ vars → (e : Expr) → IsTrue (reads vars e) → value_of e (bits ++ rest) ≡ value_of e bits
value_before vars bits rest long = value_kept vars (bits ++ rest) bits (λ k l. get_or_append_left bits rest false k (omega (arith, l, long)))
