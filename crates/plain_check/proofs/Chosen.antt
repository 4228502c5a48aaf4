-- A gate's set, over all lists of as many bits as the gate has inputs.
use Rattle.std.proofs.Common.{◌≡◌, ℕ, zero, suc, Bool, true, false, not, List, [], ◌∷◌, map, length, arith, sym, ap, refl, ◌∙◌, inl, inr}
use Rattle.std.specs.Prelude.{IsTrue, ◌↔◌, ◌&&◌, ◌||◌}
use Rattle.std.specs.List.{AllZip, list_any}
use Rattle.std.proofs.lemmas.Bool.{and_parts, and_from, or_cases, or_left, or_right, not-true, not_from_false}
use Rattle.std.proofs.lemmas.List.Folds.{list_any-append}
use Rattle.net_core.specs.declared.bit_set.BitSet.{BitSet}
use Rattle.net_core.specs.declared.cover.Cover.{Cover}
use Rattle.net_core.specs.Cover.{cover_bit}
use Rattle.net_core.specs.Sets.{IsIn, has}
use Rattle.net_core.specs.Possible.{MayGive}
use Rattle.plain_check.specs.private.Choices.{lists_of}
use Rattle.plain_check.specs.private.Sets.{fits, may_give_one, may_give_zero}

-- what holds of some list of so many bits, with a bit in front or without
any_in_front : (p : List Bool → Bool) (bit : Bool) (lists : List (List Bool)) → list_any p (map (λ bits. bit ∷ bits) lists) ≡ list_any (λ bits. p (bit ∷ bits)) lists
any_in_front p bit [] = refl
any_in_front p bit (bits ∷ lists) = ap (λ rest. p (bit ∷ bits) || rest) (any_in_front p bit lists)

any_of_more : (n : ℕ) (p : List Bool → Bool) → list_any p (lists_of (suc n)) ≡ (list_any (λ bits. p (false ∷ bits)) (lists_of n) || list_any (λ bits. p (true ∷ bits)) (lists_of n))
any_of_more n p =
    list_any-append p (map (λ bits. false ∷ bits) (lists_of n)) (map (λ bits. true ∷ bits) (lists_of n))
    ∙ ap (λ some. some || list_any p (map (λ bits. true ∷ bits) (lists_of n))) (any_in_front p false (lists_of n))
    ∙ ap (λ some. list_any (λ bits. p (false ∷ bits)) (lists_of n) || some) (any_in_front p true (lists_of n))

of_empty : (b : Bool) → (b || false) ≡ true → b ≡ true
of_empty false h = h
of_empty true h = refl

-- a test that some list of n bits passes is passed by a list of that length
pub passed_by : (n : ℕ) (p : List Bool → Bool) → IsTrue (list_any p (lists_of n)) → (bits : List Bool) × (length bits ≡ n) × IsTrue (p bits)
passed_by zero p h = ([], refl, of_empty (p []) h)
passed_by (suc n) p h = elim (or_cases (list_any (λ bits. p (false ∷ bits)) (lists_of n)) (list_any (λ bits. p (true ∷ bits)) (lists_of n)) (sym (any_of_more n p) ∙ h)) [
  | inl zeros ↦ let found = passed_by n (λ bits. p (false ∷ bits)) zeros in (false ∷ found.0, ap suc found.1, found.2)
  | inr ones ↦ let found = passed_by n (λ bits. p (true ∷ bits)) ones in (true ∷ found.0, ap suc found.1, found.2)
]

-- and the other way round
pub passes : (n : ℕ) (p : List Bool → Bool) (bits : List Bool) → length bits ≡ n → IsTrue (p bits) → IsTrue (list_any p (lists_of n))
passes zero p [] e h = or_left (p []) false h
passes zero p (bit ∷ bits) e h = absurd (omega arith)
passes (suc n) p [] e h = absurd (omega arith)
passes (suc n) p (false ∷ bits) e h = any_of_more n p ∙ or_left _ _ (passes n (λ b. p (false ∷ b)) bits (omega arith) h)
passes (suc n) p (true ∷ bits) e h = any_of_more n p ∙ or_right _ _ (passes n (λ b. p (true ∷ b)) bits (omega arith) h)

-- bits that fit the sets are a choice from them
fits_is : (bits : List Bool) (sets : List BitSet) → length bits ≡ length sets → IsTrue (fits bits sets) ↔ AllZip IsIn bits sets
fits_is [] [] e = (λ h. tt, λ h. refl)
fits_is [] (set ∷ sets) e = absurd (omega arith)
fits_is (bit ∷ bits) [] e = absurd (omega arith)
fits_is (bit ∷ bits) (set ∷ sets) e =
    let rest = fits_is bits sets (omega arith) in (
      λ h. let parts = and_parts (has set bit) (fits bits sets) h in (parts.0, rest.0 parts.1),
      λ h. and_from (has set bit) (fits bits sets) h.0 (rest.1 h.1),
    )

same_length : (bits : List Bool) (sets : List BitSet) → AllZip IsIn bits sets → length bits ≡ length sets
same_length [] [] h = refl
same_length [] (set ∷ sets) h = absurd h
same_length (bit ∷ bits) [] h = absurd h
same_length (bit ∷ bits) (set ∷ sets) h = ap suc (same_length bits sets h.1)

-- the two tests make the gate's set
pub gate_gives : (cover : Cover) (sets : List BitSet) (bit : Bool) → IsIn bit (record { zero = may_give_zero cover sets (lists_of (length sets)); one = may_give_one cover sets (lists_of (length sets)) }) ↔ MayGive (cover_bit cover) sets bit
gate_gives cover sets false = (
  λ h.
      let found = passed_by (length sets) (λ bits. fits bits sets && not (cover_bit cover bits)) h in
      let parts = and_parts (fits found.0 sets) (not (cover_bit cover found.0)) found.2 in
      (found.0, (fits_is found.0 sets found.1).0 parts.0, not-true (cover_bit cover found.0) parts.1),
  λ given.
      let long = same_length given.0 sets given.1 in
      passes (length sets) (λ bits. fits bits sets && not (cover_bit cover bits)) given.0 long
      (and_from (fits given.0 sets) (not (cover_bit cover given.0)) ((fits_is given.0 sets long).1 given.1) (not_from_false (cover_bit cover given.0) given.2)),
)
gate_gives cover sets true = (
  λ h.
      let found = passed_by (length sets) (λ bits. fits bits sets && cover_bit cover bits) h in
      let parts = and_parts (fits found.0 sets) (cover_bit cover found.0) found.2 in
      (found.0, (fits_is found.0 sets found.1).0 parts.0, parts.1),
  λ given.
      let long = same_length given.0 sets given.1 in
      passes (length sets) (λ bits. fits bits sets && cover_bit cover bits) given.0 long
      (and_from (fits given.0 sets) (cover_bit cover given.0) ((fits_is given.0 sets long).1 given.1) given.2),
)
