-- What can be decided: a fact of some number below another, of some element of a list, of some assignment and of each.
use Rattle.std.proofs.Common.{◌≡◌, ℕ, ◌<◌, zero, suc, Bool, true, false, not, List, [], ◌∷◌, length, get_or, arith, ap, sym, subst, refl, inl, inr}
use Rattle.std.specs.Prelude.{Any, IsTrue, ◌↔◌, ◌||◌}
use Rattle.std.proofs.Math.Decide.{dec_lt}
use Rattle.std.proofs.lemmas.Bool.{both_ways, not-true, not_from_false, or_cases, or_left, or_right}
use Rattle.net_core.specs.declared.bit_set.BitSet.{BitSet}
use Rattle.net_core.proofs.Possible.{and_or_not, same_fields, same_or_not}
use Rattle.ste_model.specs.Assignments.{EachAssignment, SomeAssignment, Tells}

pub below_or_not : (P : ℕ → Type 0) → ((k : ℕ) → Dec (P k)) → (n : ℕ) → Dec ((k : ℕ) × (k < n) × P k)
below_or_not P or_not zero = no (λ h. absurd (omega (arith, h.1)))
below_or_not P or_not (suc n) = elim (or_not n) [
  | yes h ↦ yes (n, omega arith, h)
  | no none ↦ elim (below_or_not P or_not n) [
    | yes h ↦ yes (h.0, omega (arith, h.1), h.2)
    | no earlier ↦ no (λ h. elim (dec_lt h.0 n) [
      | yes l ↦ earlier (h.0, l, h.2)
      | no l ↦ let last : h.0 ≡ n = omega (arith, l, h.1) in none (subst P last h.2)
    ])
  ]
]

pub set_or_not : (set other : BitSet) → Dec (set ≡ other)
set_or_not set other = elim (and_or_not (same_or_not set.zero other.zero) (same_or_not set.one other.one)) [
  | yes h ↦ yes (same_fields set.zero other.zero set.one other.one h.0 h.1)
  | no h ↦ no (λ e. h (ap (λ (s : BitSet). s.zero) e, ap (λ (s : BitSet). s.one) e))
]

in_rest : {X : Type 0} (P : X → Type 0) (x : X) (xs : List X) (k : ℕ) (y : X) → k < length (x ∷ xs) → get_or (x ∷ xs) k y ≡ y → P y → ¬ P x → ¬ Any P xs → ⊥
in_rest P x xs zero y l e h none later = none (subst P (sym e) h)
in_rest P x xs (suc k) y l e h none later = later (k, y, omega (arith, l), e, h)

pub some_or_not : {X : Type 0} (P : X → Type 0) → ((x : X) → Dec (P x)) → (xs : List X) → Dec (Any P xs)
some_or_not P or_not [] = no (λ h. absurd (omega (arith, h.2)))
some_or_not P or_not (x ∷ xs) = elim (or_not x) [
  | yes h ↦ yes (0, x, omega arith, refl, h)
  | no none ↦ elim (some_or_not P or_not xs) [
    | yes h ↦ yes (suc h.0, h.1, omega (arith, h.2), h.3, h.4)
    | no later ↦ no (λ h. in_rest P x xs h.0 h.1 h.2 h.3 h.4 none later)
  ]
]

-- ---- facts of assignments

-- what can be decided of each assignment is given by a function
test : {A : Type 0} → Dec A → Bool
test (yes h) = true
test (no h) = false

test_is : {A : Type 0} (d : Dec A) → IsTrue (test d) ↔ A
unfolding test
test_is (yes h) = (λ e. h, λ a. refl)
test_is (no h) = (λ e. absurd (cc e), λ a. absurd (h a))

pub told : (vars : ℕ) (P : List Bool → Type 0) → ((bits : List Bool) → Dec (P bits)) → (function : List Bool → Bool) × Tells vars function P
told vars P or_not = ((λ bits. test (or_not bits)), λ bits long. test_is (or_not bits))

-- whether a function is 1 under some assignment, half by half
pub somewhere : ℕ → (List Bool → Bool) → Bool
somewhere zero f = f []
somewhere (suc vars) f = somewhere vars (λ bits. f (false ∷ bits)) || somewhere vars (λ bits. f (true ∷ bits))

pub found_somewhere : (vars : ℕ) (f : List Bool → Bool) → somewhere vars f ≡ true → SomeAssignment vars (λ bits. IsTrue (f bits))
unfolding somewhere
found_somewhere zero f h = ([], refl, h)
found_somewhere (suc vars) f h = elim (or_cases (somewhere vars (λ bits. f (false ∷ bits))) (somewhere vars (λ bits. f (true ∷ bits))) h) [
  | inl here ↦ let at = found_somewhere vars (λ bits. f (false ∷ bits)) here in (false ∷ at.0, omega (arith, at.1), at.2)
  | inr here ↦ let at = found_somewhere vars (λ bits. f (true ∷ bits)) here in (true ∷ at.0, omega (arith, at.1), at.2)
]

pub is_somewhere_at : (vars : ℕ) (f : List Bool → Bool) (bits : List Bool) → length bits ≡ vars → IsTrue (f bits) → somewhere vars f ≡ true
unfolding somewhere
is_somewhere_at zero f [] long h = h
is_somewhere_at zero f (bit ∷ bits) long h = absurd (omega arith)
is_somewhere_at (suc vars) f [] long h = absurd (omega arith)
is_somewhere_at (suc vars) f (false ∷ bits) long h = or_left (somewhere vars (λ bits. f (false ∷ bits))) (somewhere vars (λ bits. f (true ∷ bits))) (is_somewhere_at vars (λ bits. f (false ∷ bits)) bits (omega arith) h)
is_somewhere_at (suc vars) f (true ∷ bits) long h = or_right (somewhere vars (λ bits. f (false ∷ bits))) (somewhere vars (λ bits. f (true ∷ bits))) (is_somewhere_at vars (λ bits. f (true ∷ bits)) bits (omega arith) h)

pub tells_some : (vars : ℕ) (f : List Bool → Bool) (P : List Bool → Type 0) → Tells vars f P → IsTrue (somewhere vars f) ↔ SomeAssignment vars P
tells_some vars f P tells = (
  λ h. let at = found_somewhere vars f h in (at.0, at.1, (tells at.0 at.1).0 at.2),
  λ at. is_somewhere_at vars f at.0 at.1 ((tells at.0 at.1).1 at.2),
)

pub tells_each : (vars : ℕ) (f : List Bool → Bool) (P : List Bool → Type 0) → Tells vars f P → IsTrue (not (somewhere vars (λ bits. not (f bits)))) ↔ EachAssignment vars P
tells_each vars f P tells = (
  λ h bits long. (tells bits long).0 (not_false (f bits) (λ e. both_ways (somewhere vars (λ b. not (f b))) (not-true (somewhere vars (λ b. not (f b))) h) (is_somewhere_at vars (λ b. not (f b)) bits long (not_from_false (f bits) e)))),
  λ all. none_there (somewhere vars (λ b. not (f b))) (λ e. let at = found_somewhere vars (λ b. not (f b)) e in both_ways (f at.0) (not-true (f at.0) at.2) ((tells at.0 at.1).1 (all at.0 at.1))),
)
  where
    not_false : (b : Bool) → (b ≡ false → ⊥) → b ≡ true
    not_false true h = refl
    not_false false h = absurd (h refl)

    none_there : (b : Bool) → (b ≡ true → ⊥) → not b ≡ true
    none_there true h = absurd (h refl)
    none_there false h = refl
