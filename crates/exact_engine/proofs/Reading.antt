-- An expression over some variables is one over more.
use Rattle.std.proofs.Common.{◌≡◌, ℕ, ◌≤◌, Bool, true, List, [], ◌∷◌, map, refl, sym, ◌∙◌, subst, arith, get_or}
use Rattle.std.specs.Prelude.{IsTrue}
use Rattle.std.specs.List.{list_all}
use Rattle.std.proofs.lemmas.Bool.{and_from, and_parts}
use Rattle.bool_expr.specs.declared.expr.Expr.{Expr, map-Expr, roll-Expr}
use Rattle.bool_expr.specs.declared.expr.Expr.TheOpen.{Expr-F, Const, Var, Not, All as Every, Odd, Any}
use Rattle.bool_expr.specs.declared.expr.Expr.TheFolds.{fold-roll-Expr, ind-Expr}
use Rattle.ste_model.specs.declared.task.Quint.{Quint}
use Rattle.ste_model.specs.Expressions.{reads, reads_step}
use Rattle.ste_model.specs.Need.{ReadBelow}

module _ (v w : ℕ) (le : v ≤ w) where
  abbrev IsMore : Expr → Type 0
  IsMore e = IsTrue (reads v e) → IsTrue (reads w e)

  abbrev Part : Type 0
  Part = (e : Expr) × IsMore e

  abbrev expr_of : Part → Expr
  expr_of part = part.0

  each : (parts : List Part) → list_all (λ b. b) (map (reads v) (map expr_of parts)) ≡ true → list_all (λ b. b) (map (reads w) (map expr_of parts)) ≡ true
  each [] h = refl
  each (part ∷ parts) h =
      let p = and_parts (reads v part.0) (list_all (λ b. b) (map (reads v) (map expr_of parts))) h in
      and_from (reads w part.0) (list_all (λ b. b) (map (reads w) (map expr_of parts))) (part.1 p.0) (each parts p.1)

  layer : (y : Expr-F Part) → IsTrue (reads_step v (map-Expr Expr Bool (reads v) (map-Expr Part Expr expr_of y))) → IsTrue (reads_step w (map-Expr Expr Bool (reads w) (map-Expr Part Expr expr_of y)))
  layer (Const bit) h = refl
  layer (Var variable) h = grind (arith, h, le)
  layer (Not part) h = part.value.1 h
  layer (Every parts) h = each parts.items h
  layer (Odd parts) h = each parts.items h
  layer (Any parts) h = each parts.items h

  roll_more : (y : Expr-F Part) → IsMore (roll-Expr (map-Expr Part Expr expr_of y))
  roll_more y h =
      let z : Expr-F Expr = map-Expr Part Expr expr_of y in
      subst (λ (b : Bool). b ≡ true) (sym (fold-roll-Expr Bool (reads_step w) z)) (layer y (sym (fold-roll-Expr Bool (reads_step v) z) ∙ h))

  pub reads_more : (e : Expr) → IsMore e
  reads_more = ind-Expr IsMore (λ x y is. subst (λ (z : Expr-F Expr). IsMore (roll-Expr z)) is (roll_more y))

  pub read_more : (quints : List Quint) → ReadBelow v quints → ReadBelow w quints
  read_more quints h k d l =
      let q = get_or quints k d in
      let p = and_parts (reads v q.guard) (reads v q.value) (h k d l) in
      and_from (reads w q.guard) (reads w q.value) (reads_more q.guard p.0) (reads_more q.value p.1)
