-- Bits at the places of marks.
use Rattle.std.proofs.Common.{inl, inr, ◌≡◌, ◌<◌, ◌≤◌, ◌+◌, ◌-◌, ◌/◌, ◌%◌, ◌^◌, ◌*◌, ◌++◌, ◌∷◌, [], refl, min, ℕ, zero, suc, List, Bool, false, length, replicate, arith, sym, ◌∙◌, ap, get_or, w64, shr-shr}
use Rattle.std.specs.Int.{bit_at, trailing_zeros}
use Rattle.std.proofs.lemmas.List.{get_or-replicate, get_or_append_left}
use Rattle.std.proofs.lemmas.Bool.{cases_lt}
use Rattle.std.proofs.lemmas.Nat.{shr_le}
use Rattle.std.proofs.lemmas.Nat.Bits.{bit_at-trailing_zeros, bit_at-zero, bit_at_ones}
use Rattle.sym_step.specs.private.Marks.{AreAsleep, AreResting, bit_of}
use Rattle.sym_step.specs.private.Readers.{flag_at}

-- the bits of a word from one on
shifted : (word from k : ℕ) → bit_at (word / 2 ^ from) k ≡ bit_at word (from + k)
shifted word from k = ap (λ (n : ℕ). n % 2) (shr-shr word from k)

at_rest : (word from k : ℕ) → from ≤ k → bit_at word k ≡ bit_at (word / 2 ^ from) (k - from)
at_rest word from k le = let same : k ≡ from + (k - from) = omega arith in ap (bit_at word) same ∙ sym (shifted word from (k - from))

-- where nothing is left of a word, it has no more bits
pub none_left : (word from : ℕ) → word / 2 ^ from ≡ 0 → (k : ℕ) → from ≤ k → bit_at word k ≡ 0
none_left word from none k le = at_rest word from k le ∙ ap (λ (rest : ℕ). bit_at rest (k - from)) none ∙ bit_at-zero (k - from)

-- before the first bit that is left there is none
pub none_before : (word from : ℕ) → word < 2 ^ 64 → (word / 2 ^ from ≡ 0 → ⊥) → (k : ℕ) → from ≤ k → k < from + trailing_zeros w64 (word / 2 ^ from) → bit_at word k ≡ 0
none_before word from fits some k le lt =
    let small = shr_le word from in
    let rest = bit_at-trailing_zeros w64 (word / 2 ^ from) (omega (arith, some)) (omega (arith, small, fits)) in
    at_rest word from k le ∙ rest.2 (k - from) (omega (arith, le, lt))

none_beyond : (flags : List Bool) (k : ℕ) → length flags ≤ k → flag_at flags k ≡ false
none_beyond [] k le = refl
none_beyond (flag ∷ flags) zero le = absurd (omega arith)
none_beyond (flag ∷ flags) (suc k) le = none_beyond flags k (omega arith)

-- marks of which the first ones are taken away
pub first_cleared : (filled rest : List Bool) (n count : ℕ) → length filled ≡ min count n → length (filled ++ rest) ≡ n → ((k : ℕ) (d : Bool) → k < length filled → get_or filled k d ≡ false) → (k : ℕ) → k < count → flag_at (filled ++ rest) k ≡ false
first_cleared filled rest n count same long each k lt = elim (cases_lt k (length filled)) as (λ _. flag_at (filled ++ rest) k ≡ false) [
  | inl inside ↦ get_or_append_left filled rest false k inside ∙ each k false inside
  | inr outside ↦ none_beyond (filled ++ rest) k (omega (arith, same, long, lt, outside))
]

one_of_all : (words : List ℕ) (n place : ℕ) → words ≡ replicate n (2 ^ 64 - 1) → place < n * 64 → bit_of words place ≡ 1
one_of_all words n place all lt =
    let word : get_or words (place / 64) 0 ≡ 2 ^ 64 - 1 = ap (λ (xs : List ℕ). get_or xs (place / 64) 0) all ∙ get_or-replicate n (place / 64) (2 ^ 64 - 1) 0 (omega (arith, lt)) in
    ap (λ (w : ℕ). bit_at w (place % 64)) word ∙ bit_at_ones 64 (place % 64) (omega arith)

-- where all bits are 1, no gate is without a mark
pub all_awake : (flags : List Bool) (order words : List ℕ) (n : ℕ) → words ≡ replicate n (2 ^ 64 - 1) → length order ≤ n * 64 → AreAsleep flags order words
all_awake flags order words n all wide place lt none = let one = one_of_all words n place all (omega (arith, wide, lt)) in absurd (omega (arith, one, none))

-- and no latch is
pub all_resting : (flags : List Bool) (gates : ℕ) (words : List ℕ) (n : ℕ) → words ≡ replicate n (2 ^ 64 - 1) → length flags ≤ gates + n * 64 → AreResting flags gates words
all_resting flags gates words n all wide l none = elim (cases_lt l (n * 64)) as (λ _. flag_at flags (gates + l) ≡ false) [
  | inl inside ↦ let one = one_of_all words n l all inside in absurd (omega (arith, one, none))
  | inr beyond ↦ none_beyond flags (gates + l) (omega (arith, wide, beyond))
]
