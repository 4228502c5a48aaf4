-- Each gate stands once in a settled order.
use Rattle.std.proofs.Common.{◌≡◌, ◌≢◌, ℕ, zero, suc, ◌<◌, Bool, true, false, List, [], ◌∷◌, length, get_or, refl, sym, ◌∙◌, ap, subst, arith, eqb, eq-eqb, inl, inr}
use Rattle.std.specs.Prelude.{AllPairs, ◌||◌}
use Rattle.std.specs.List.{list_any}
use Rattle.std.proofs.lemmas.Bool.{cases_eq, eqb-true}
use Rattle.std.proofs.lemmas.List.{get_or_default}
use Rattle.std.proofs.lemmas.List.Folds.{Any-from_list_any}
use Rattle.std.proofs.lemmas.Map.Steps.{le-length_from_below}
use Rattle.net_core.specs.declared.raw.RawNet.{RawNet}
use Rattle.net_core.specs.Flat.{IsSettledOrder}

or_true : (a b : Bool) → b ≡ true → (a || b) ≡ true
or_true true b e = refl
or_true false b e = e

same_eqb : (n : ℕ) → eqb n n ≡ true
same_eqb n = eq-eqb n n refl

any_at : (xs : List ℕ) (k : ℕ) → k < length xs → list_any (eqb (get_or xs k 0)) xs ≡ true
any_at [] k lt = absurd (omega arith)
any_at (x ∷ xs) zero lt = ap (λ (b : Bool). b || list_any (eqb x) xs) (same_eqb x)
any_at (x ∷ xs) (suc k) lt = or_true (eqb (get_or xs k 0) x) _ (any_at xs k (omega arith))

-- a list without its element at a place
without : List ℕ → ℕ → List ℕ
without [] q = []
without (x ∷ xs) zero = xs
without (x ∷ xs) (suc q) = x ∷ without xs q

shorter : (xs : List ℕ) (q : ℕ) → q < length xs → suc (length (without xs q)) ≡ length xs
unfolding without
shorter [] q lt = absurd (omega arith)
shorter (x ∷ xs) zero lt = refl
shorter (x ∷ xs) (suc q) lt = ap suc (shorter xs q (omega arith))

has_still : (xs : List ℕ) (q k : ℕ) → k < length xs → k ≢ q → list_any (eqb (get_or xs k 0)) (without xs q) ≡ true
unfolding without
has_still [] q k lt ne = absurd (omega arith)
has_still (x ∷ xs) zero zero lt ne = absurd (ne refl)
has_still (x ∷ xs) zero (suc k) lt ne = any_at xs k (omega arith)
has_still (x ∷ xs) (suc q) zero lt ne = ap (λ (b : Bool). b || list_any (eqb x) (without xs q)) (same_eqb x)
has_still (x ∷ xs) (suc q) (suc k) lt ne = or_true (eqb (get_or xs k 0) x) _ (has_still xs q k (omega arith) (λ e. ne (ap suc e)))

-- a list of as many numbers as it has all numbers below has none of them twice
once : (net : RawNet) (order : List ℕ) → IsSettledOrder net order → (p q : ℕ) → p < q → q < length order → get_or order p 0 ≡ get_or order q 0 → ⊥
once net order is_order p q less inside same =
    let each : (gate : ℕ) → gate < length net.gates → list_any (eqb gate) (without order q) ≡ true = λ gate lt.
    let any = Any-from_list_any (λ (other : ℕ). eqb other gate) order (is_order.every gate lt) in
    let at : get_or order any.0 0 ≡ gate = get_or_default order any.0 0 any.1 any.2 ∙ any.3 ∙ eqb-true any.1 gate any.4 in
    elim (cases_eq any.0 q) [
      | inl here ↦
          let at_p : get_or order p 0 ≡ gate = same ∙ ap (λ (k : ℕ). get_or order k 0) (sym here) ∙ at in
          subst (λ (x : ℕ). list_any (eqb x) (without order q) ≡ true) at_p (has_still order q p (omega (arith, less, inside)) (λ e. absurd (omega (arith, less, e))))
      | inr other ↦ subst (λ (x : ℕ). list_any (eqb x) (without order q) ≡ true) at (has_still order q any.0 any.2 other)
    ] in
    let few = le-length_from_below (without order q) (length net.gates) each in
    let less_one = shorter order q inside in
    let long = is_order.long in
    omega (arith, few, less_one, long)

pub apart : (net : RawNet) (order : List ℕ) → IsSettledOrder net order → AllPairs (λ (one other : ℕ). one ≢ other) order
apart net order is_order i j d less inside same =
    once net order is_order i j less inside (get_or_default order i 0 d (omega (arith, less, inside)) ∙ same ∙ get_or_default order j d 0 inside)
