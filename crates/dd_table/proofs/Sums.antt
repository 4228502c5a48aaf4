-- Sums over lists whose elements are read by `get_elem?`, and counts of taken slots.
use Rattle.std.proofs.Common.{◌≡◌, ◌≢◌, ℕ, zero, suc, ◌+◌, ◌<◌, ◌≤◌, ◌==◌, List, [], ◌∷◌, ◌++◌, length, set, get_or, take, drop, cond, refl, sym, ap, ◌∙◌, arith}
use Rattle.std.proofs.lemmas.List.Sums.{sum_by-cons, sum_by_push, sum_by-set, sum_by_more, get_or-le-sum_by}
use Rattle.std.specs.Prelude.{slice_index, sum_by}
use mathlib.Core.Option.{some, some-injective, some-ne-none}
use lib.ListN.{get_elem?}
use Rattle.dd_nodes.specs.declared.node.Ref.{Ref}
use Rattle.dd_table.specs.Codes.{ref}
use Rattle.dd_table.specs.Rules.{one_if_taken, taken_slots, count_of}

module _ {X : Type 0} where
  -- an element that is read by its place
  at_place : (xs : List X) (i : ℕ) (v : X) → get_elem? xs i ≡ some v → (i < length xs) × (get_or xs i v ≡ v)
  at_place [] i v e = absurd (some-ne-none v (sym e))
  at_place (x ∷ xs) zero v e = (omega arith, some-injective _ _ e)
  at_place (x ∷ xs) (suc i) v e = let t = at_place xs i v e in let lt = t.0 in (omega arith, t.1)

  -- one element is another
  pub sum_set : (f : X → ℕ) (xs : List X) (i : ℕ) (v w : X) → get_elem? xs i ≡ some v
      → sum_by f (set xs i w) + f v ≡ sum_by f xs + f w
  sum_set f xs i v w e =
      let p = at_place xs i v e in
      let a = sum_by-set f xs i w v p.0 in
      let b = ap f p.1 in
      omega arith

  -- one element is another of the same summand
  pub sum_kept : (f : X → ℕ) (xs : List X) (i : ℕ) (v w : X) → get_elem? xs i ≡ some v → f w ≡ f v
      → sum_by f (set xs i w) ≡ sum_by f xs
  sum_kept f xs i v w e same = let t = sum_set f xs i v w e in omega arith

  -- one summand is at most the sum
  pub at_most_sum : (f : X → ℕ) (xs : List X) (i : ℕ) (v : X) → get_elem? xs i ≡ some v → f v ≤ sum_by f xs
  at_most_sum f xs i v e =
      let p = at_place xs i v e in
      let a = get_or-le-sum_by f xs i v p.0 in
      let b = ap f p.1 in
      omega arith

  -- a sum is at most another, summand by summand
  pub sum_le : (f g : X → ℕ) (xs : List X) → ((i : ℕ) (x : X) → get_elem? xs i ≡ some x → f x ≤ g x) → sum_by f xs ≤ sum_by g xs
  sum_le f g [] h = omega arith
  sum_le f g (x ∷ xs) h =
      let t = sum_le f g xs (λ i y e. h (suc i) y e) in
      let u = h 0 x refl in
      let a = sum_by-cons f x xs in
      let b = sum_by-cons g x xs in
      omega arith

  -- the same with one summand left out on both sides
  pub sum_rest_le : (f g : X → ℕ) (xs : List X) (i : ℕ) (v : X) → ((j : ℕ) (x : X) → get_elem? xs j ≡ some x → f x ≤ g x)
      → get_elem? xs i ≡ some v → sum_by f xs + g v ≤ sum_by g xs + f v
  sum_rest_le f g [] i v h e = absurd (some-ne-none v (sym e))
  sum_rest_le f g (x ∷ xs) zero v h e =
      let a = ap f (some-injective _ _ e) in
      let b = ap g (some-injective _ _ e) in
      let c = sum_le f g xs (λ j y d. h (suc j) y d) in
      let p = sum_by-cons f x xs in
      let q = sum_by-cons g x xs in
      omega arith
  sum_rest_le f g (x ∷ xs) (suc i) v h e =
      let a = sum_rest_le f g xs i v (λ j y d. h (suc j) y d) e in
      let b = h 0 x refl in
      let p = sum_by-cons f x xs in
      let q = sum_by-cons g x xs in
      omega arith

-- one reference more at the end
pub count_push : (r k : ℕ) (xs : List Ref) → count_of r (xs ++ ref k ∷ []) ≡ count_of r xs + cond {A = ℕ} (k == r) 1 0
count_push r k xs = sum_by_push (λ (q : Ref). cond {A = ℕ} (q.0 == r) 1 0) xs (ref k)

pub one_of : (w : ℕ) → w ≢ 0 → one_if_taken w ≡ 1
one_of zero ne = absurd (ne refl)
one_of (suc w) ne = refl

pub one_le : (w : ℕ) → one_if_taken w ≤ 1
one_le zero = omega arith
one_le (suc w) = omega arith

-- an empty slot is taken
pub taken_set : (ws : List ℕ) (s w : ℕ) → s < length ws → slice_index ws s ≡ 0 → w ≢ 0
    → taken_slots (set ws s w) ≡ taken_slots ws + 1
taken_set ws s w lt empty' ne =
    let a = sum_by-set one_if_taken ws s w 0 lt in
    let b : one_if_taken (slice_index ws s) ≡ 0 = ap one_if_taken empty' in
    let c = one_of w ne in
    omega arith

-- where fewer slots than all are taken, some slot is empty
pub some_empty : (ws : List ℕ) → taken_slots ws < length ws → (s : ℕ) × (s < length ws) × (slice_index ws s ≡ 0)
some_empty [] h = absurd (omega arith)
some_empty (zero ∷ ws) h = (0, omega arith, refl)
some_empty (suc w ∷ ws) h =
    let a = sum_by-cons one_if_taken (suc w) ws in
    let t = some_empty ws (omega arith) in
    let lt = t.1 in
    (suc t.0, omega arith, t.2)

-- the slots up to one and itself
pub taken_more : (ws : List ℕ) (i w : ℕ) → get_elem? ws i ≡ some w → taken_slots (take (i + 1) ws) ≡ taken_slots (take i ws) + one_if_taken w
taken_more ws i w e =
    let p = at_place ws i w e in
    sum_by_more one_if_taken ws i w p.0 ∙ ap (λ y. taken_slots (take i ws) + one_if_taken y) p.1

-- a taken slot, and those behind it
pub taken_behind : (ws : List ℕ) (b s : ℕ) → b ≤ s → slice_index ws s ≢ 0 → taken_slots (drop (suc s) ws) + 1 ≤ taken_slots (drop b ws)
taken_behind [] b s le ne = absurd (ne refl)
taken_behind (zero ∷ ws) zero zero le ne = absurd (ne refl)
taken_behind (suc w ∷ ws) zero zero le ne = let a = sum_by-cons one_if_taken (suc w) ws in omega arith
taken_behind (w ∷ ws) zero (suc s) le ne =
    let t = taken_behind ws 0 s (omega arith) ne in
    let a = sum_by-cons one_if_taken w ws in
    omega arith
taken_behind (w ∷ ws) (suc b) zero le ne = absurd (omega arith)
taken_behind (w ∷ ws) (suc b) (suc s) le ne = taken_behind ws b s (omega arith) ne
