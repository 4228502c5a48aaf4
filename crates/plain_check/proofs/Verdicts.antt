-- The verdict, from an outcome for each list of bits.
use Rattle.std.proofs.Common.{◌≡◌, ℕ, ◌<◌, zero, suc, Bool, true, false, List, [], ◌∷◌, ◌++◌, map, length, arith, sym, ap, refl, subst, ◌∙◌, inl, inr, ◌+◌, get_or, take}
use Rattle.std.specs.Prelude.{IsTrue, ◌⊎◌}
use Rattle.std.specs.List.{AllZip, list_all, list_any}
use Rattle.std.proofs.lemmas.Bool.{and_parts, and_from, or_cases, or_left, or_right}
use Rattle.net_core.specs.declared.bit_set.BitSet.{BitSet}
use Rattle.net_core.specs.declared.raw.RawNet.{RawNet}
use Rattle.net_core.specs.Run.{IsSettled, Cut}
use Rattle.ste_model.specs.declared.task.Assertion.{Assertion}
use Rattle.ste_model.specs.Asked.{asked_at, depth}
use Rattle.ste_model.specs.Found.{FailsStrongly, FailsWeakly, IsContradictory, IsFound, IsStrong, IsWeak, IsVerdictOf}
use Rattle.ste_model.proofs.Tables.{same_table}
use Rattle.ste_model.proofs.Findings.{verdict_from}
use Rattle.plain_check.specs.declared.found.Outcome.{Outcome}
use Rattle.plain_check.specs.declared.found.Outcome.TheVariants.{Contradictory, Strong, Weak, Fine}
use Rattle.plain_check.specs.private.Choices.{lists_of}
use Rattle.plain_check.specs.private.Outcome.{IsOutcome, is_strong, is_weak, is_contradictory, verdict_of}

-- one list of bits more has its outcome
pub zip_more : {X Y : Type 0} (R : X → Y → Type 0) (xs : List X) (ys : List Y) (i : ℕ) (x : X) (y : Y) → i < length xs → x ≡ get_or xs i x → AllZip R (take i xs) ys → R x y → AllZip R (take (i + 1) xs) (ys ++ y ∷ [])
zip_more R [] ys i x y l is all h = absurd (omega arith)
zip_more R (a ∷ xs) [] zero x y l is all h = (subst (λ z. R z y) is h, tt)
zip_more R (a ∷ xs) (b ∷ ys) zero x y l is all h = absurd all
zip_more R (a ∷ xs) [] (suc i) x y l is all h = absurd all
zip_more R (a ∷ xs) (b ∷ ys) (suc i) x y l is all h = let e : suc i + 1 ≡ suc (i + 1) = omega arith in rw e (all.0, zip_more R xs ys i x y (omega arith) is all.1 h)

-- an entry of a list
abbrev In : {X : Type 0} → X → List X → Type 0
In x [] = ⊥
In x (y ∷ ys) = (y ≡ x) ⊎ In x ys

in_append_left : {X : Type 0} (x : X) (xs ys : List X) → In x xs → In x (xs ++ ys)
in_append_left x [] ys h = absurd h
in_append_left x (y ∷ xs) ys (inl e) = inl e
in_append_left x (y ∷ xs) ys (inr h) = inr (in_append_left x xs ys h)

in_append_right : {X : Type 0} (x : X) (xs ys : List X) → In x ys → In x (xs ++ ys)
in_append_right x [] ys h = h
in_append_right x (y ∷ xs) ys h = inr (in_append_right x xs ys h)

in_append_cases : {X : Type 0} (x : X) (xs ys : List X) → In x (xs ++ ys) → In x xs ⊎ In x ys
in_append_cases x [] ys h = inr h
in_append_cases x (y ∷ xs) ys (inl e) = inl (inl e)
in_append_cases x (y ∷ xs) ys (inr h) = elim (in_append_cases x xs ys h) [ inl one ↦ inl (inr one) | inr other ↦ inr other ]

in_map : {X Y : Type 0} (f : X → Y) (x : X) (xs : List X) → In x xs → In (f x) (map f xs)
in_map f x [] h = absurd h
in_map f x (y ∷ xs) (inl e) = inl (ap f e)
in_map f x (y ∷ xs) (inr h) = inr (in_map f x xs h)

in_map_back : {X Y : Type 0} (f : X → Y) (y : Y) (xs : List X) → In y (map f xs) → (x : X) × In x xs × (f x ≡ y)
in_map_back f y [] h = absurd h
in_map_back f y (x ∷ xs) (inl e) = (x, inl refl, e)
in_map_back f y (x ∷ xs) (inr h) = let found = in_map_back f y xs h in (found.0, inr found.1, found.2)

-- the lists of n bits are all those of that length
all_in : (n : ℕ) (bits : List Bool) → length bits ≡ n → In bits (lists_of n)
all_in zero [] e = inl refl
all_in zero (bit ∷ bits) e = absurd (omega arith)
all_in (suc n) [] e = absurd (omega arith)
all_in (suc n) (false ∷ bits) e = in_append_left (false ∷ bits) (map (λ b. false ∷ b) (lists_of n)) (map (λ b. true ∷ b) (lists_of n)) (in_map (λ b. false ∷ b) bits (lists_of n) (all_in n bits (omega arith)))
all_in (suc n) (true ∷ bits) e = in_append_right (true ∷ bits) (map (λ b. false ∷ b) (lists_of n)) (map (λ b. true ∷ b) (lists_of n)) (in_map (λ b. true ∷ b) bits (lists_of n) (all_in n bits (omega arith)))

of_length : (n : ℕ) (bits : List Bool) → In bits (lists_of n) → length bits ≡ n
of_length zero bits (inl e) = sym (ap length e)
of_length zero bits (inr h) = absurd h
of_length (suc n) bits h = elim (in_append_cases bits (map (λ b. false ∷ b) (lists_of n)) (map (λ b. true ∷ b) (lists_of n)) h) [
  | inl zeros ↦ let found = in_map_back (λ (b : List Bool). false ∷ b) bits (lists_of n) zeros in sym (ap length found.2) ∙ ap suc (of_length n found.0 found.1)
  | inr ones ↦ let found = in_map_back (λ (b : List Bool). true ∷ b) bits (lists_of n) ones in sym (ap length found.2) ∙ ap suc (of_length n found.0 found.1)
]

module _ (net : RawNet) (task : Assertion) (settled : IsSettled net) where
  -- an assignment under which something is found is not contradictory
  apart : (Fails : (ℕ → BitSet) → Cut → Type 0) (bits : List Bool) → IsFound Fails net task bits → IsContradictory net task bits → ⊥
  apart Fails bits found none =
      let empty = none.2 in
      let same = same_table net task.reset (asked_at task bits) (depth task) settled none.0 found.0 none.1 found.1 empty.0 empty.2.0 empty.1 in
      found.2 (empty.0, empty.1, (empty.2.0, empty.2.1, sym same ∙ empty.2.2))

  strong_from : (bits : List Bool) (o : Outcome) → IsTrue (is_strong o) → IsOutcome net task bits o → IsStrong net task bits
  strong_from bits Strong e is = is
  strong_from bits Contradictory e is = absurd (cc e)
  strong_from bits Weak e is = absurd (cc e)
  strong_from bits Fine e is = absurd (cc e)

  from_strong : (bits : List Bool) (o : Outcome) → IsStrong net task bits → IsOutcome net task bits o → IsTrue (is_strong o)
  from_strong bits Strong strong is = refl
  from_strong bits Contradictory strong is = absurd (apart FailsStrongly bits strong is)
  from_strong bits Weak strong is = absurd (is.0 strong)
  from_strong bits Fine strong is = absurd (is.1 strong)

  weak_from : (bits : List Bool) (o : Outcome) → IsTrue (is_weak o) → IsOutcome net task bits o → IsWeak net task bits
  weak_from bits Strong e is = absurd (cc e)
  weak_from bits Contradictory e is = absurd (cc e)
  weak_from bits Weak e is = is
  weak_from bits Fine e is = absurd (cc e)

  from_weak : (bits : List Bool) (o : Outcome) → IsWeak net task bits → IsOutcome net task bits o → IsTrue (is_weak o)
  from_weak bits Strong weak is = absurd (weak.0 is)
  from_weak bits Contradictory weak is = absurd (apart FailsWeakly bits weak.1 is)
  from_weak bits Weak weak is = refl
  from_weak bits Fine weak is = absurd (is.2 weak)

  contradictory_from : (bits : List Bool) (o : Outcome) → IsTrue (is_contradictory o) → IsOutcome net task bits o → IsContradictory net task bits
  contradictory_from bits Strong e is = absurd (cc e)
  contradictory_from bits Contradictory e is = is
  contradictory_from bits Weak e is = absurd (cc e)
  contradictory_from bits Fine e is = absurd (cc e)

  from_contradictory : (bits : List Bool) (o : Outcome) → IsContradictory net task bits → IsOutcome net task bits o → IsTrue (is_contradictory o)
  from_contradictory bits Strong none is = absurd (apart FailsStrongly bits is none)
  from_contradictory bits Contradictory none is = refl
  from_contradictory bits Weak none is = absurd (apart FailsWeakly bits is.1 none)
  from_contradictory bits Fine none is = absurd (is.0 none)

  some_found : (p : Outcome → Bool) (lists : List (List Bool)) (outcomes : List Outcome) → AllZip (IsOutcome net task) lists outcomes → IsTrue (list_any p outcomes) → (bits : List Bool) × In bits lists × ((o : Outcome) × IsOutcome net task bits o × IsTrue (p o))
  some_found p [] [] all h = absurd (cc h)
  some_found p [] (o ∷ outcomes) all h = absurd all
  some_found p (bits ∷ lists) [] all h = absurd all
  some_found p (bits ∷ lists) (o ∷ outcomes) all h = elim (or_cases (p o) (list_any p outcomes) h) [
    | inl here ↦ (bits, inl refl, (o, all.0, here))
    | inr rest ↦ let found = some_found p lists outcomes all.1 rest in (found.0, inr found.1, found.2)
  ]

  some_from : (p : Outcome → Bool) (bits : List Bool) → ((o : Outcome) → IsOutcome net task bits o → IsTrue (p o)) → (lists : List (List Bool)) (outcomes : List Outcome) → AllZip (IsOutcome net task) lists outcomes → In bits lists → IsTrue (list_any p outcomes)
  some_from p bits means [] outcomes all h = absurd h
  some_from p bits means (first ∷ lists) [] all h = absurd all
  some_from p bits means (first ∷ lists) (o ∷ outcomes) all (inl e) = or_left (p o) _ (means o (subst (λ (b : List Bool). IsOutcome net task b o) e all.0))
  some_from p bits means (first ∷ lists) (o ∷ outcomes) all (inr h) = or_right (p o) _ (some_from p bits means lists outcomes all.1 h)

  each_found : (p : Outcome → Bool) (bits : List Bool) (lists : List (List Bool)) (outcomes : List Outcome) → AllZip (IsOutcome net task) lists outcomes → IsTrue (list_all p outcomes) → In bits lists → (o : Outcome) × IsOutcome net task bits o × IsTrue (p o)
  each_found p bits [] outcomes all h there = absurd there
  each_found p bits (first ∷ lists) [] all h there = absurd all
  each_found p bits (first ∷ lists) (o ∷ outcomes) all h (inl e) = (o, subst (λ (b : List Bool). IsOutcome net task b o) e all.0, (and_parts (p o) (list_all p outcomes) h).0)
  each_found p bits (first ∷ lists) (o ∷ outcomes) all h (inr there) = each_found p bits lists outcomes all.1 (and_parts (p o) (list_all p outcomes) h).1 there

  each_from : (p : Outcome → Bool) (lists : List (List Bool)) (outcomes : List Outcome) → ((bits : List Bool) (o : Outcome) → In bits lists → IsOutcome net task bits o → IsTrue (p o)) → AllZip (IsOutcome net task) lists outcomes → IsTrue (list_all p outcomes)
  each_from p [] [] means all = refl
  each_from p [] (o ∷ outcomes) means all = absurd all
  each_from p (bits ∷ lists) [] means all = absurd all
  each_from p (bits ∷ lists) (o ∷ outcomes) means all = and_from (p o) (list_all p outcomes) (means bits o (inl refl) all.0) (each_from p lists outcomes (λ b r there. means b r (inr there)) all.1)

  pub verdict_is : (vars : ℕ) (outcomes : List Outcome) → AllZip (IsOutcome net task) (lists_of vars) outcomes → IsVerdictOf net vars task (verdict_of outcomes)
  verdict_is vars outcomes all = verdict_from vars (IsStrong net task) (IsWeak net task) (IsContradictory net task) (list_any is_strong outcomes) (list_any is_weak outcomes) (list_all is_contradictory outcomes) (
    λ h. let found = some_found is_strong (lists_of vars) outcomes all h in (found.0, of_length vars found.0 found.1, strong_from found.0 found.2.0 found.2.2 found.2.1),
    λ some. some_from is_strong some.0 (λ o is. from_strong some.0 o some.2 is) (lists_of vars) outcomes all (all_in vars some.0 some.1),
  ) (
    λ h. let found = some_found is_weak (lists_of vars) outcomes all h in (found.0, of_length vars found.0 found.1, weak_from found.0 found.2.0 found.2.2 found.2.1),
    λ some. some_from is_weak some.0 (λ o is. from_weak some.0 o some.2 is) (lists_of vars) outcomes all (all_in vars some.0 some.1),
  ) (
    λ h bits long. let found = each_found is_contradictory bits (lists_of vars) outcomes all h (all_in vars bits long) in contradictory_from bits found.0 found.2 found.1,
    λ each. each_from is_contradictory (lists_of vars) outcomes (λ bits o there is. from_contradictory bits o (each bits (of_length vars bits there)) is) all,
  )
