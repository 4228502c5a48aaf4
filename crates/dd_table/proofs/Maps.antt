-- Finite maps from numbers.
use Rattle.std.proofs.Common.{◌≡◌, ◌≢◌, ◌⊎◌, ℕ, ◌<◌, ◌≤◌, List, [], ◌∷◌, ◌++◌, cond, Some, None, Option, true, false, refl, sym, ap, ◌∙◌, subst, inl, inr, suc, lt_of_not-le, arith}
use Rattle.std.specs.Ordering.{nat_cmp, eq_by_cmp, is_eq}
use Rattle.std.specs.Cmp.{nat_cmp_total, nat_cmp_is}
use Rattle.std.specs.declared.cmp.Ordering.TheVariants.{Less, Equal, Greater}
use Rattle.std.specs.FinMap.{FinMap, get, insert, empty, entries, find, get-insert, get-empty, get-entries, get-from_entries}
use Rattle.dd_table.specs.Views.{union}
use mathlib.Core.Logic.{dite}
use native.Mathlib.Decide.{ℕ_discrete, dec_le}

pub tie_same : (k : ℕ) → eq_by_cmp nat_cmp k k ≡ true
tie_same k = ap is_eq (sym (nat_cmp_is k k Equal refl))

below : (q k : ℕ) → q ≢ k → q ≤ k → q < k
below q k ne le = dite (dec_le (suc q) k) (λ l. omega arith) (λ n. let lt : k < suc q = lt_of_not-le n in absurd (ne (omega arith)))

pub tie_other : (q k : ℕ) → q ≢ k → eq_by_cmp nat_cmp q k ≡ false
tie_other q k ne = dite (dec_le q k)
    (λ le. let lt : q < k = below q k ne le in ap is_eq (sym (nat_cmp_is q k Less lt)))
    (λ not. let lt : k < q = lt_of_not-le not in ap is_eq (sym (nat_cmp_is q k Greater lt)))

module _ {X : Type 0} (m : FinMap nat_cmp X) where
  pub get_same : (k : ℕ) (v : X) → get (insert m k v) k ≡ Some v
  get_same k v = get-insert nat_cmp_total m k v k ∙ ap (λ b. cond b (Some v) (get m k)) (tie_same k)

  pub get_other : (k : ℕ) (v : X) (q : ℕ) → q ≢ k → get (insert m k v) q ≡ get m q
  get_other k v q ne = get-insert nat_cmp_total m k v q ∙ ap (λ b. cond b (Some v) (get m q)) (tie_other q k ne)

  -- the entry found is the new one_if_taken or an old one_if_taken
  pub get_cases : (k : ℕ) (v : X) (q : ℕ) (x : X) → get (insert m k v) q ≡ Some x → ((q ≡ k) × (v ≡ x)) ⊎ ((q ≢ k) × (get m q ≡ Some x))
  get_cases k v q x e = dite (ℕ_discrete q k)
      (λ same. let f : Some v ≡ Some x = sym (get_same k v) ∙ ap (get (insert m k v)) (sym same) ∙ e in inl (same, (cc)))
      (λ ne. inr (ne, sym (get_other k v q ne) ∙ e))

  -- an old entry stays, where the new one_if_taken agrees with it
  pub get_stays : (k : ℕ) (v : X) (q : ℕ) (x : X) → get m q ≡ Some x → (q ≡ k → v ≡ x) → get (insert m k v) q ≡ Some x
  get_stays k v q x e agrees = dite (ℕ_discrete q k)
      (λ same. ap (get (insert m k v)) same ∙ get_same k v ∙ ap Some (agrees same))
      (λ ne. get_other k v q ne ∙ e)

or_else : {X : Type 0} → Option X → Option X → Option X
or_else (Some x) o = Some x
or_else None o = o

find_both : {X : Type 0} (q : ℕ) (es fs : List (ℕ × X)) → find nat_cmp q (es ++ fs) ≡ or_else (find nat_cmp q es) (find nat_cmp q fs)
unfolding or_else
find_both q [] fs = refl
find_both q (e ∷ es) fs = elim (eq_by_cmp nat_cmp q e.0) as (λ b. cond b (Some e.1) (find nat_cmp q (es ++ fs)) ≡ or_else (cond b (Some e.1) (find nat_cmp q es)) (find nat_cmp q fs)) [ true ↦ refl | false ↦ find_both q es fs ]

get_union : {X : Type 0} (a b : FinMap nat_cmp X) (q : ℕ) → get (union a b) q ≡ or_else (get a q) (get b q)
get_union a b q = get-from_entries nat_cmp_total (entries a ++ entries b) q ∙ find_both q (entries a) (entries b)
    ∙ (λ i. or_else (sym (get-entries a q) i) (sym (get-entries b q) i))

from_or : {X : Type 0} (o p : Option X) (x : X) → or_else o p ≡ Some x → (o ≡ Some x) ⊎ (p ≡ Some x)
unfolding or_else
from_or (Some y) p x e = inl e
from_or None p x e = inr e

into_right : {X : Type 0} (o p : Option X) (x : X) → p ≡ Some x → ((y : X) → o ≡ Some y → y ≡ x) → or_else o p ≡ Some x
unfolding or_else
into_right (Some y) p x e same = ap Some (same y refl)
into_right None p x e same = e

module _ {X : Type 0} (a b : FinMap nat_cmp X) (q : ℕ) (x : X) where
  pub union_cases : get (union a b) q ≡ Some x → (get a q ≡ Some x) ⊎ (get b q ≡ Some x)
  union_cases e = from_or (get a q) (get b q) x (sym (get_union a b q) ∙ e)

  pub union_left : get a q ≡ Some x → get (union a b) q ≡ Some x
  unfolding or_else
  union_left e = get_union a b q ∙ ap (λ o. or_else o (get b q)) e

  pub union_right : get b q ≡ Some x → ((y : X) → get a q ≡ Some y → y ≡ x) → get (union a b) q ≡ Some x
  union_right e same = get_union a b q ∙ into_right (get a q) (get b q) x e same

is_entry : {X : Type 0} → Option X → Type 0
is_entry None = ⊥
is_entry (Some x) = Unit {0}

pub none_or_some : {X : Type 0} (o : Option X) (x : X) → o ≡ None → o ≡ Some x → ⊥
unfolding is_entry
none_or_some o x a b = subst is_entry (sym b ∙ a) tt

-- a map without entries
pub no_entry : {X : Type 0} (q : ℕ) (x : X) → get (empty {X = X} {R = nat_cmp}) q ≡ Some x → ⊥
no_entry {X} q x e = none_or_some (get (empty {X = X} {R = nat_cmp}) q) x (get-empty nat_cmp q) e

is_none : {X : Type 0} (o : Option X) → ((x : X) → o ≡ Some x → ⊥) → o ≡ None
is_none None h = refl
is_none (Some x) h = absurd (h x refl)

-- an entry that cannot be is none
pub unmet : {X : Type 0} (m : FinMap nat_cmp X) (s : ℕ) → ((x : X) → get m s ≡ Some x → ⊥) → get m s ≡ None
unmet m s h = is_none (get m s) h
