-- What is the first numbers in another order, and rises, is the first numbers.
use Rattle.std.proofs.Common.{◌≡◌, ◌≢◌, ◌<◌, ◌≤◌, ◌+◌, ◌-◌, ℕ, zero, suc, List, [], ◌∷◌, length, get_or, sum_by, lt_of_not-le, refl, ◌∙◌, arith}
use mathlib.Core.Logic.{dite}
use native.Mathlib.Decide.{ℕ_discrete, dec_le}
use Rattle.std.proofs.lemmas.List.{get_or_default}
use Rattle.std.specs.List.Sorted.{IsPermutation}
use Rattle.std.proofs.lemmas.List.Sorted.{length_permutation, sum_by-IsPermutation}
use Rattle.std.proofs.lemmas.List.Sums.{sum_by-cons}

-- 1 where the number is below k
below_one : ℕ → ℕ → ℕ
below_one k x = 1 - (suc x - k)

-- how many numbers are below k
below : ℕ → List ℕ → ℕ
below k xs = sum_by (below_one k) xs

below_next : (k x : ℕ) (xs : List ℕ) → below k (x ∷ xs) ≡ 1 - (suc x - k) + below k xs
unfolding below below_one
below_next k x xs = sum_by-cons (below_one k) x xs

below_none : (k : ℕ) → below k [] ≡ 0
unfolding below
below_none k = refl

below_moved : (k : ℕ) (xs ys : List ℕ) → IsPermutation xs ys → below k ys ≡ below k xs
unfolding below
below_moved k xs ys moved = sum_by-IsPermutation (below_one k) xs ys moved

-- of the numbers from a on, in order
below_from : (k a : ℕ) (xs : List ℕ) → ((i d : ℕ) → i < length xs → get_or xs i d ≡ a + i) → k - a ≤ length xs → below k xs ≡ k - a
below_from k a [] each few = let none = below_none k in omega (arith, few, none)
below_from k a (x ∷ xs) each few =
    let first : x ≡ a + 0 = each 0 0 (omega arith) in
    let rest : below k xs ≡ k - (a + 1) = below_from k (a + 1) xs (λ i d l. each (suc i) d (omega (arith, l)) ∙ (let e : a + suc i ≡ a + 1 + i = omega arith in e)) (omega (arith, few)) in
    let next = below_next k x xs in omega (arith, first, rest, next)

-- where the first n + 1 are below k
many_below : (k : ℕ) (xs : List ℕ) (n : ℕ) → n < length xs → ((i d : ℕ) → i ≤ n → get_or xs i d < k) → n + 1 ≤ below k xs
many_below k [] n lt each = absurd (omega (arith, lt))
many_below k (x ∷ xs) zero lt each =
    let first : x < k = each 0 0 (omega arith) in
    let next = below_next k x xs in omega (arith, first, next)
many_below k (x ∷ xs) (suc n) lt each =
    let first : x < k = each 0 0 (omega arith) in
    let rest = many_below k xs n (omega (arith, lt)) (λ i d l. each (suc i) d (omega (arith, l))) in
    let next = below_next k x xs in omega (arith, first, rest, next)

-- where those from the n-th on are not below k
few_below : (k : ℕ) (xs : List ℕ) (n : ℕ) → ((i d : ℕ) → n ≤ i → i < length xs → k ≤ get_or xs i d) → below k xs ≤ n
few_below k [] n each = let none = below_none k in omega (arith, none)
few_below k (x ∷ xs) zero each =
    let first : k ≤ x = each 0 0 (omega arith) (omega arith) in
    let rest = few_below k xs zero (λ i d l m. each (suc i) d (omega arith) (omega (arith, m))) in
    let next = below_next k x xs in omega (arith, first, rest, next)
few_below k (x ∷ xs) (suc n) each =
    let rest = few_below k xs n (λ i d l m. each (suc i) d (omega (arith, l)) (omega (arith, m))) in
    let next = below_next k x xs in omega (arith, rest, next)

lt_of_both : (a b : ℕ) → a ≤ b → a ≢ b → a < b
lt_of_both a b low other = dite (dec_le (suc a) b) (λ (h : suc a ≤ b). h) (λ no. let high : b < suc a = lt_of_not-le no in let e : a ≡ b = omega (arith, low, high) in absurd (other e))

pub ranks : (xs ys : List ℕ) → ((i d : ℕ) → i < length xs → get_or xs i d ≡ i) → IsPermutation xs ys → ((i j d : ℕ) → i ≤ j → j < length ys → get_or ys i d ≤ get_or ys j d) → (i d : ℕ) → i < length ys → get_or ys i d ≡ i
ranks xs ys each moved rises i d lt = dite (ℕ_discrete (get_or ys i d) i) (λ same. same) (λ other. absurd (dite (dec_le (get_or ys i d) i) (λ low. too_many low other) (λ high. too_few (lt_of_not-le high))))
  where
    long : length ys ≡ length xs
    long = length_permutation xs ys moved

    same : (k : ℕ) → k ≤ length xs → below k ys ≡ k
    same k few = below_moved k xs ys moved ∙ below_from k 0 xs (λ j e l. each j e l ∙ (let z : j ≡ 0 + j = omega arith in z)) (omega (arith, few)) ∙ (let z : k - 0 ≡ k = omega arith in z)

    at : (j e : ℕ) → j < length ys → get_or ys j e ≡ get_or ys j d
    at j e l = get_or_default ys j e d l

    too_many : get_or ys i d ≤ i → get_or ys i d ≢ i → ⊥
    too_many low other =
        let less : get_or ys i d < i = lt_of_both (get_or ys i d) i low other in
        let many = many_below i ys i lt (λ j e l. let r = rises j i d l lt in let f = at j e (omega (arith, l, lt)) in omega (arith, r, f, less)) in
        let exact = same i (omega (arith, lt, long)) in omega (arith, many, exact)

    too_few : i < get_or ys i d → ⊥
    too_few high =
        let few = few_below (suc i) ys i (λ j e l m. let r = rises i j d l m in let f = at j e m in omega (arith, r, f, high)) in
        let exact = same (suc i) (omega (arith, lt, long)) in omega (arith, few, exact)
