-- What the plain checker finds under an assignment is what is defined, and so is the verdict.
use Rattle.std.proofs.Common.{◌≡◌, ℕ, ◌<◌, zero, suc, Bool, true, false, not, List, [], ◌∷◌, map, length, get_or, arith, sym, ap, refl, subst, ◌∙◌, inl, inr}
use Rattle.std.specs.Prelude.{All, Any, IsTrue, ◌↔◌, ◌&&◌, if◌then◌else◌}
use Rattle.std.specs.List.{list_any}
use Rattle.std.proofs.lemmas.Bool.{and_parts, and_from, not-true, not_from_false, both_ways, or_cases, or_left, or_right}
use Rattle.std.proofs.lemmas.List.Folds.{Any-from_list_any, list_any_at}
use Rattle.std.proofs.lemmas.List.{get_or_default}
use Rattle.net_core.specs.declared.bit_set.BitSet.{BitSet}
use Rattle.net_core.specs.declared.raw.RawNet.{RawNet}
use Rattle.net_core.specs.Run.{IsSettled, Cut}
use Rattle.net_core.specs.Sets.{both, neither, only}
use Rattle.net_core.proofs.Possible.{same_fields}
use Rattle.ste_model.specs.declared.task.Assertion.{Assertion}
use Rattle.ste_model.specs.declared.task.Quint.{Quint}
use Rattle.ste_model.specs.Asked.{asked_at, quint_at, depth}
use Rattle.ste_model.specs.Found.{IsTableOf, IsEmptySomewhere, IsContradictory, IsFound, IsStrong, IsWeak}
use Rattle.ste_model.proofs.Tables.{same_table}
use Rattle.ste_model.proofs.Findings.{found_in}
use Rattle.plain_check.specs.declared.found.Failure.{Failure}
use Rattle.plain_check.specs.declared.found.Failure.TheVariants as failure
use Rattle.plain_check.specs.private.Outcome.{table_of, is_empty, has_empty, fails, fails_cut, fails_at}
use Rattle.plain_check.specs.private.Sets.{set_at}

pub empty_is : (set : BitSet) → IsTrue (is_empty set) ↔ (set ≡ neither)
empty_is set = (
  λ h. let parts = and_parts (not set.zero) (not set.one) h in same_fields set.zero false set.one false (not-true set.zero parts.0) (not-true set.one parts.1),
  λ e. rw e refl,
)

-- a test of the rows finds an empty set exactly where the table has one
pub empty_found : (net : RawNet) (task : Assertion) (rows : List (List BitSet)) → length rows ≡ depth task → All (λ row. length row ≡ net.nets) rows → IsTrue (has_empty rows) → IsEmptySomewhere net task (table_of rows)
empty_found net task rows long wide h =
    let any = Any-from_list_any (λ row. list_any is_empty row) rows h in
    let inner = Any-from_list_any is_empty any.1 any.4 in
    let row : get_or rows any.0 [] ≡ any.1 = get_or_default rows any.0 [] any.1 any.2 ∙ any.3 in
    let size : length any.1 ≡ net.nets = ap length (sym any.3) ∙ wide any.0 any.1 any.2 in
    let set : table_of rows any.0 inner.0 ≡ inner.1 = ap (λ (r : List BitSet). set_at r inner.0) row ∙ (get_or_default any.1 inner.0 both inner.1 inner.2 ∙ inner.3) in
    (any.0, omega (arith, any.2, long), (inner.0, omega (arith, inner.2, size), set ∙ (empty_is inner.1).0 inner.4))

pub empty_found_not : (net : RawNet) (task : Assertion) (rows : List (List BitSet)) → length rows ≡ depth task → All (λ row. length row ≡ net.nets) rows → has_empty rows ≡ false → ¬ IsEmptySomewhere net task (table_of rows)
empty_found_not net task rows long wide none empty =
    let inside : empty.0 < length rows = omega (arith, empty.1, long) in
    let size = wide empty.0 [] inside in
    let here = list_any_at is_empty (get_or rows empty.0 []) empty.2.0 both (omega (arith, empty.2.1, size)) ((empty_is (table_of rows empty.0 empty.2.0)).1 empty.2.2) in
    both_ways (has_empty rows) none (list_any_at (λ row. list_any is_empty row) rows empty.0 [] inside here)

opposite : (zero one value : Bool) → IsTrue ((if (not value) then one else zero) && not (if value then one else zero)) ↔ ((zero ≡ not (not value)) × (one ≡ not value))
opposite z o false = (λ h. let parts = and_parts o (not z) h in (not-true z parts.1, parts.0), λ h. and_from o (not z) h.1 (not_from_false z h.0))
opposite z o true = (λ h. let parts = and_parts z (not o) h in (parts.0, not-true o parts.1), λ h. and_from z (not o) h.0 (not_from_false o h.1))

strong_is : (set : BitSet) (value : Bool) → IsTrue (fails failure.Strong set value) ↔ (set ≡ only (not value))
strong_is set value = (
  λ h. let parts = (opposite set.zero set.one value).0 h in same_fields set.zero (not (not value)) set.one (not value) parts.0 parts.1,
  λ e. (opposite set.zero set.one value).1 (ap (λ (s : BitSet). s.zero) e, ap (λ (s : BitSet). s.one) e),
)

weak_is : (set : BitSet) (value : Bool) → IsTrue (fails failure.Weak set value) ↔ (set ≡ both)
weak_is set value = (
  λ h. let parts = and_parts set.zero set.one h in same_fields set.zero true set.one true parts.0 parts.1,
  λ e. and_from set.zero set.one (ap (λ (s : BitSet). s.zero) e) (ap (λ (s : BitSet). s.one) e),
)

-- a test over a list, and the same over what is made of it
pub any_of_map : {X Y : Type 0} (f : X → Y) (P : Y → Type 0) (p : X → Bool) → ((x : X) → p x ≡ true → P (f x)) → (xs : List X) → list_any p xs ≡ true → Any P (map f xs)
any_of_map f P p means [] h = absurd (cc h)
any_of_map f P p means (x ∷ xs) h = elim (or_cases (p x) (list_any p xs) h) [
  | inl here ↦ (0, f x, omega arith, refl, means x here)
  | inr rest ↦ let any = any_of_map f P p means xs rest in (suc any.0, any.1, omega (arith, any.2), any.3, any.4)
]

pub map_any_at : {X Y : Type 0} (f : X → Y) (P : Y → Type 0) (p : X → Bool) → ((x : X) → P (f x) → p x ≡ true) → (xs : List X) (k : ℕ) (y : Y) → k < length (map f xs) → get_or (map f xs) k y ≡ y → P y → list_any p xs ≡ true
map_any_at f P p means [] k y l e h = absurd (omega arith)
map_any_at f P p means (x ∷ xs) zero y l e h = or_left (p x) _ (means x (subst P (sym e) h))
map_any_at f P p means (x ∷ xs) (suc k) y l e h = or_right (p x) _ (map_any_at f P p means xs k y (omega arith) e h)

-- two findings, by their names in the code
abbrev pub says : Failure → BitSet → Cut → Type 0
says failure.Strong set cut = IsTrue cut.on × (set ≡ only (not cut.value))
says failure.Weak set cut = IsTrue cut.on × (set ≡ both)

pub fails_is : (how : Failure) (sets : ℕ → BitSet) (cut : Cut) → IsTrue (fails_cut how sets cut) ↔ says how (sets cut.node) cut
fails_is failure.Strong sets cut = (
  λ h. let parts = and_parts cut.on (fails failure.Strong (sets cut.node) cut.value) h in (parts.0, (strong_is (sets cut.node) cut.value).0 parts.1),
  λ h. and_from cut.on (fails failure.Strong (sets cut.node) cut.value) h.0 ((strong_is (sets cut.node) cut.value).1 h.1),
)
fails_is failure.Weak sets cut = (
  λ h. let parts = and_parts cut.on (fails failure.Weak (sets cut.node) cut.value) h in (parts.0, (weak_is (sets cut.node) cut.value).0 parts.1),
  λ h. and_from cut.on (fails failure.Weak (sets cut.node) cut.value) h.0 ((weak_is (sets cut.node) cut.value).1 h.1),
)

-- the same, at the assertion's depth and consequent
pub some_of : (how : Failure) (rows : List (List BitSet)) (task : Assertion) (bits : List Bool) (n : ℕ) (quints : List Quint) → n ≡ depth task → quints ≡ task.con → (t : ℕ) × (t < n) × IsTrue (fails_at how (get_or rows t []) quints bits t) → (t : ℕ) × (t < depth task) × IsTrue (fails_at how (get_or rows t []) task.con bits t)
some_of how rows task bits n quints deep same h = (h.0, omega (arith, h.1, deep), subst (λ (qs : List Quint). IsTrue (fails_at how (get_or rows h.0 []) qs bits h.0)) same h.2)

pub none_of : (how : Failure) (rows : List (List BitSet)) (task : Assertion) (bits : List Bool) (n : ℕ) (quints : List Quint) → n ≡ depth task → quints ≡ task.con → ((t : ℕ) → t < n → fails_at how (get_or rows t []) quints bits t ≡ false) → (t : ℕ) → t < depth task → fails_at how (get_or rows t []) task.con bits t ≡ false
none_of how rows task bits n quints deep same none t l = subst (λ (qs : List Quint). fails_at how (get_or rows t []) qs bits t ≡ false) same (none t (omega (arith, l, deep)))

-- what is found under an assignment, from the rows of its possible table
module _ (net : RawNet) (task : Assertion) (bits : List Bool) (settled : IsSettled net) (rows : List (List BitSet)) (long : length rows ≡ depth task) (wide : All (λ row. length row ≡ net.nets) rows) (is : IsTableOf net task bits (table_of rows)) where
  pub contradictory_is : IsTrue (has_empty rows) → IsContradictory net task bits
  contradictory_is h = (table_of rows, is, empty_found net task rows long wide h)

  pub contradictory_is_not : has_empty rows ≡ false → ¬ IsContradictory net task bits
  contradictory_is_not none found =
      let empty = found.2 in
      let same = same_table net task.reset (asked_at task bits) (depth task) settled found.0 (table_of rows) found.1 is empty.0 empty.2.0 empty.1 in
      empty_found_not net task rows long wide none (empty.0, empty.1, (empty.2.0, empty.2.1, sym same ∙ empty.2.2))

  found_is : (how : Failure) → has_empty rows ≡ false → (t : ℕ) × (t < depth task) × IsTrue (fails_at how (get_or rows t []) task.con bits t) → IsFound (λ sets cut. says how (sets cut.node) cut) net task bits
  found_is how none h =
      (table_of rows, is, empty_found_not net task rows long wide none, (h.0, h.1, any_of_map (quint_at bits h.0) (λ cut. says how (table_of rows h.0 cut.node) cut) (λ quint. fails_cut how (table_of rows h.0) (quint_at bits h.0 quint)) (λ quint e. (fails_is how (table_of rows h.0) (quint_at bits h.0 quint)).0 e) task.con h.2))

  found_is_not : (how : Failure) → ((t : ℕ) → t < depth task → fails_at how (get_or rows t []) task.con bits t ≡ false) → ¬ IsFound (λ sets cut. says how (sets cut.node) cut) net task bits
  found_is_not how none found =
      let here = found_in (says how) net task bits settled (table_of rows) is found in
      let t = here.1.0 in
      let any = here.1.2 in
      both_ways _ (none t here.1.1) (map_any_at (quint_at bits t) (λ cut. says how (table_of rows t cut.node) cut) (λ quint. fails_cut how (table_of rows t) (quint_at bits t quint)) (λ quint e. (fails_is how (table_of rows t) (quint_at bits t quint)).1 e) task.con any.0 any.1 any.2 any.3 any.4)

  pub strong_found : has_empty rows ≡ false → (t : ℕ) × (t < depth task) × IsTrue (fails_at failure.Strong (get_or rows t []) task.con bits t) → IsStrong net task bits
  strong_found none h = found_is failure.Strong none h

  pub strong_found_not : ((t : ℕ) → t < depth task → fails_at failure.Strong (get_or rows t []) task.con bits t ≡ false) → ¬ IsStrong net task bits
  strong_found_not none found = found_is_not failure.Strong none found

  pub weak_found : has_empty rows ≡ false → ((t : ℕ) → t < depth task → fails_at failure.Strong (get_or rows t []) task.con bits t ≡ false) → (t : ℕ) × (t < depth task) × IsTrue (fails_at failure.Weak (get_or rows t []) task.con bits t) → IsWeak net task bits
  weak_found none not_strong h = (strong_found_not not_strong, found_is failure.Weak none h)

  pub weak_found_not : ((t : ℕ) → t < depth task → fails_at failure.Weak (get_or rows t []) task.con bits t ≡ false) → ¬ IsWeak net task bits
  weak_found_not none found = found_is_not failure.Weak none found.1
