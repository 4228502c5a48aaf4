-- The function of an expression has its value.
use Rattle.std.proofs.Common.{◌≡◌, Bool, true, false, not, List, [], ◌∷◌, map, refl, sym, ◌∙◌, ap, subst}
use Rattle.std.specs.Prelude.{◌&&◌, ◌||◌, fold}
use Rattle.std.specs.List.{list_all, list_any}
use Rattle.bool_expr.specs.declared.expr.Expr.{Expr}
use Rattle.bool_expr.specs.declared.expr.Expr.{map-Expr, roll-Expr}
use Rattle.bool_expr.specs.declared.expr.Expr.TheOpen.{Expr-F, Const, Var, Not, All, Odd, Any}
use Rattle.bool_expr.specs.declared.expr.Expr.TheFolds.{ind-Expr, fold-roll-Expr}
use Rattle.bool_expr.specs.Value.{flips, value_of, value_step}
use Rattle.ste_base.specs.Functions.{Function}
use Rattle.net_core.specs.Work.{always, conjunction, disjunction, never, whole}
use Rattle.ste_model.specs.Expressions.{FunctionsAreValues, SymbolicValue, exclusive_disjunction, symbolic_step, symbolic_value}

-- the functions of expressions
abbrev pub values_of : List Expr → List Function
values_of es = map (λ (part : SymbolicValue). part.value) (map symbolic_value es)

-- an expression whose function has its value
abbrev Valued : Type 0
Valued = (e : Expr) × ((bits : List Bool) → (symbolic_value e).value bits ≡ value_of e bits)

abbrev parts_of : List Valued → List Expr
parts_of items = map (λ (b : Valued). b.0) items

and_true : (b : Bool) → b ≡ b && true
and_true true = refl
and_true false = refl

and_assoc : (a b c : Bool) → (a && b) && c ≡ a && (b && c)
and_assoc true b c = refl
and_assoc false b c = refl

or_false : (b : Bool) → b ≡ b || false
or_false true = refl
or_false false = refl

or_assoc : (a b c : Bool) → (a || b) || c ≡ a || (b || c)
or_assoc true b c = refl
or_assoc false b c = refl

all_is : (bits : List Bool) (f : Function) (items : List Valued) → whole conjunction f (values_of (parts_of items)) bits ≡ f bits && list_all (λ b. b) (map (λ e. value_of e bits) (parts_of items))
all_is bits f [] = and_true (f bits)
all_is bits f (x ∷ xs) = all_is bits (conjunction f (symbolic_value x.0).value) xs ∙ and_assoc (f bits) ((symbolic_value x.0).value bits) (list_all (λ b. b) (map (λ e. value_of e bits) (parts_of xs)))
    ∙ ap (λ b. f bits && (b && list_all (λ b. b) (map (λ e. value_of e bits) (parts_of xs)))) (x.1 bits)

any_is : (bits : List Bool) (f : Function) (items : List Valued) → whole disjunction f (values_of (parts_of items)) bits ≡ f bits || list_any (λ b. b) (map (λ e. value_of e bits) (parts_of items))
any_is bits f [] = or_false (f bits)
any_is bits f (x ∷ xs) = any_is bits (disjunction f (symbolic_value x.0).value) xs ∙ or_assoc (f bits) ((symbolic_value x.0).value bits) (list_any (λ b. b) (map (λ e. value_of e bits) (parts_of xs)))
    ∙ ap (λ b. f bits || (b || list_any (λ b. b) (map (λ e. value_of e bits) (parts_of xs)))) (x.1 bits)

odd_is : (bits : List Bool) (f : Function) (items : List Valued) → whole exclusive_disjunction f (values_of (parts_of items)) bits ≡ fold flips (f bits) (map (λ e. value_of e bits) (parts_of items))
odd_is bits f [] = refl
odd_is bits f (x ∷ xs) = odd_is bits (exclusive_disjunction f (symbolic_value x.0).value) xs ∙ ap (λ b. fold flips (flips (f bits) b) (map (λ e. value_of e bits) (parts_of xs))) (x.1 bits)

middle : (y : Expr-F Valued) (bits : List Bool) → (symbolic_step (map-Expr Expr SymbolicValue symbolic_value (map-Expr Valued Expr (λ b. b.0) y))).value bits ≡ value_step bits (map-Expr Expr Bool (λ e. value_of e bits) (map-Expr Valued Expr (λ b. b.0) y))
middle (Const b) bits = refl
middle (Var v) bits = refl
middle (Not part) bits = ap not (part.value.1 bits)
middle (All parts) bits = all_is bits always parts.items
middle (Odd parts) bits = odd_is bits never parts.items
middle (Any parts) bits = any_is bits never parts.items

step_is : (x : Expr-F Expr) (y : Expr-F Valued) → map-Expr Valued Expr (λ b. b.0) y ≡ x → (bits : List Bool) → (symbolic_value (roll-Expr x)).value bits ≡ value_of (roll-Expr x) bits
step_is x y is bits =
    let z : Expr-F Expr = map-Expr Valued Expr (λ b. b.0) y in
    subst (λ (x : Expr-F Expr). (symbolic_value (roll-Expr x)).value bits ≡ value_of (roll-Expr x) bits) is
    (ap (λ (p : SymbolicValue). p.value bits) (fold-roll-Expr SymbolicValue symbolic_step z) ∙ middle y bits ∙ sym (fold-roll-Expr Bool (value_step bits) z))

pub functions_are_values : FunctionsAreValues
functions_are_values e = ind-Expr (λ e. (bits : List Bool) → (symbolic_value e).value bits ≡ value_of e bits) step_is e
