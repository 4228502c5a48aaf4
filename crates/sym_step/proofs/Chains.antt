-- Lists of numbers as chains through one list of slots.
use Rattle.std.proofs.Common.{◌≡◌, ◌≢◌, ℕ, zero, suc, ◌+◌, ◌<◌, ◌≤◌, List, [], ◌∷◌, ◌++◌, length, refl, sym, ◌∙◌, ap, subst, arith, inl, inr}
use Rattle.std.proofs.lemmas.Bool.{cases_lt}
use Rattle.std.proofs.lemmas.List.{get_or_append_left, get_or_past, get_or_push, length-append}
use Rattle.sym_step.specs.declared.readers.Slot.{Slot}
use Rattle.sym_step.specs.private.Readers.{IsLink, IsNotMet, IsOnChain, slot_of, spot}

-- the slot of no link
no_slot : Slot
no_slot = record { number = 0; next = 0 }

-- only a slot that a link names has another behind it
before_link : (slots : List Slot) (link : ℕ) → 0 < (slot_of slots link).next → IsLink slots link
before_link slots zero h = absurd (omega (arith, h))
before_link slots (suc place) h = elim (cases_lt place (length slots)) [
  | inl less ↦ (omega arith, omega (arith, less))
  | inr more ↦ absurd (let e = ap (λ (s : Slot). s.next) (get_or_past slots place (record { number = 0; next = 0 }) (omega (arith, more))) in omega (arith, h, e))
]

-- a chain that has come to a link has been at links alone
pub earlier : (slots : List Slot) (head n m : ℕ) → n ≤ m → IsLink slots (spot slots head m) → IsLink slots (spot slots head n)
earlier slots head n zero le h = subst (λ (i : ℕ). IsLink slots (spot slots head i)) (let e : 0 ≡ n = omega (arith, le) in e) h
earlier slots head n (suc m) le h = elim (cases_lt n (suc m)) [
  | inl less ↦ earlier slots head n m (omega (arith, less)) (before_link slots (spot slots head m) h.0)
  | inr more ↦ subst (λ (i : ℕ). IsLink slots (spot slots head i)) (let e : suc m ≡ n = omega (arith, le, more) in e) h
]

-- ---- one slot more

slot_kept : (slots : List Slot) (slot : Slot) (link : ℕ) → IsLink slots link → slot_of (slots ++ slot ∷ []) link ≡ slot_of slots link
slot_kept slots slot zero p = refl
slot_kept slots slot (suc place) p = get_or_append_left slots (slot ∷ []) (record { number = 0; next = 0 }) place (omega (arith, p.1))

spot_kept : (slots : List Slot) (slot : Slot) (head n : ℕ) → IsLink slots (spot slots head n) → spot (slots ++ slot ∷ []) head n ≡ spot slots head n
spot_kept slots slot head zero h = refl
spot_kept slots slot head (suc n) h =
    let link : ℕ = spot slots head n in
    let p : IsLink slots link = before_link slots link h.0 in
    ap (λ (i : ℕ). (slot_of (slots ++ slot ∷ []) i).next) (spot_kept slots slot head n p) ∙ ap (λ (s : Slot). s.next) (slot_kept slots slot link p)

link_kept : (slots : List Slot) (slot : Slot) (link : ℕ) → IsLink slots link → IsLink (slots ++ slot ∷ []) link
link_kept slots slot link p = (p.0, let e = length-append slots (slot ∷ []) in omega (arith, e, p.1))

-- what is on a chain stays on it
pub still_on : (slots : List Slot) (slot : Slot) (head k : ℕ) → IsOnChain slots head k → IsOnChain (slots ++ slot ∷ []) head k
still_on slots slot head k h =
    let same = spot_kept slots slot head h.place h.link in
    record {
      place = h.place;
      few = let e = length-append slots (slot ∷ []) in let lt = h.few in omega (arith, e, lt);
      link = subst (IsLink (slots ++ slot ∷ [])) (sym same) (link_kept slots slot (spot slots head h.place) h.link);
      number = ap (λ (i : ℕ). (slot_of (slots ++ slot ∷ []) i).number) same ∙ ap (λ (s : Slot). s.number) (slot_kept slots slot (spot slots head h.place) h.link) ∙ h.number;
    }

from_next : (slots : List Slot) (head n : ℕ) → spot slots head (suc n) ≡ spot slots (slot_of slots head).next n
from_next slots head zero = refl
from_next slots head (suc n) = ap (λ (i : ℕ). (slot_of slots i).next) (from_next slots head n)

-- the slots with one more that goes before a chain
abbrev pub with_slot : List Slot → ℕ → ℕ → List Slot
with_slot slots head k = slots ++ record { number = k; next = head } ∷ []

last_slot : (slots : List Slot) (head k : ℕ) → slot_of (with_slot slots head k) (suc (length slots)) ≡ record { number = k; next = head }
last_slot slots head k = get_or_push slots (record { number = k; next = head }) (record { number = 0; next = 0 }) (length slots) refl

-- what is on a chain is on it with another slot before
pub also_on : (slots : List Slot) (head j k : ℕ) → IsOnChain slots head k → IsOnChain (with_slot slots head j) (suc (length slots)) k
unfolding still_on
also_on slots head j k h =
    let new : List Slot = with_slot slots head j in
    let on : IsOnChain new head k = still_on slots (record { number = j; next = head }) head k h in
    let same : spot new (suc (length slots)) (suc h.place) ≡ spot new head h.place = from_next new (suc (length slots)) h.place ∙ ap (λ (s : Slot). spot new s.next h.place) (last_slot slots head j) in
    record {
      place = suc h.place;
      few = let e = length-append slots (record { number = j; next = head } ∷ []) in let lt = h.few in omega (arith, e, lt);
      link = subst (IsLink new) (sym same) on.link;
      number = ap (λ (i : ℕ). (slot_of new i).number) same ∙ on.number;
    }

-- the number of the slot before a chain
pub first_on : (slots : List Slot) (head k : ℕ) → IsOnChain (with_slot slots head k) (suc (length slots)) k
first_on slots head k =
    let e = length-append slots (record { number = k; next = head } ∷ []) in
    record {
      place = 0;
      few = omega (arith, e);
      link = (omega arith, omega (arith, e));
      number = ap (λ (s : Slot). s.number) (last_slot slots head k);
    }

-- ---- a walk

-- one slot more has been met
pub next_met : (slots : List Slot) (head n k number : ℕ) → number ≡ (slot_of slots (spot slots head n)).number → IsNotMet slots head n k → number ≢ k → IsNotMet slots head (n + 1) k
next_met slots head n k number is before other m lt link = elim (cases_lt m n) [
  | inl less ↦ before m less link
  | inr more ↦
      let e : n ≡ m = omega (arith, lt, more) in
      subst (λ (i : ℕ). (slot_of slots (spot slots head i)).number ≢ k) e (λ same. other (is ∙ same))
]

-- where the walk has come to the end, the number is not on the chain
pub all_met : (slots : List Slot) (head n k : ℕ) → ¬ IsLink slots (spot slots head n) → IsNotMet slots head n k → ¬ IsOnChain slots head k
all_met slots head n k end none h = elim (cases_lt h.place n) [
  | inl less ↦ none h.place less h.link h.number
  | inr more ↦ end (earlier slots head n h.place (omega (arith, more)) h.link)
]

-- or where it has gone as many links as there are slots
pub whole_met : (slots : List Slot) (head n k : ℕ) → length slots ≤ n → IsNotMet slots head n k → ¬ IsOnChain slots head k
whole_met slots head n k long none h = none h.place (let lt = h.few in omega (arith, lt, long)) h.link h.number
