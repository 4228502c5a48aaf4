-- Lists that rise are the same where they have the same numbers.
use Rattle.std.proofs.Common.{ℕ, zero, suc, ◌+◌, ◌<◌, ◌≤◌, ◌≡◌, refl, ap, sym, subst, ◌∙◌, List, [], ◌∷◌, ◌++◌, length, get_or, arith, Bool, true, false, Option, None, Some, inl, inr}
use Rattle.std.specs.Prelude.{◌⊎◌, Contains, eqb, if◌then◌else◌, nat_eq}
use Rattle.std.specs.List.{dedup, filter_map, slice_index}
use Rattle.std.specs.List.Sorted.{IsPermutation, IsSorted, IsStrictlyIncreasing}
use Rattle.std.specs.Ordering.{nat_cmp}
use Rattle.std.proofs.lemmas.List.Kept.{Contains-dedup_nat, Contains-from_dedup}
use Rattle.std.proofs.lemmas.List.Sorted.{Contains-permutation, IsPermutation-sym}
use Rattle.std.proofs.lemmas.Map.Keys.{IsStrictlyIncreasing-dedup}
use Rattle.hierarchy.proofs.Members.{In, append_cases, contains_from_in, filter_map_in, in_filter_map, in_from_contains}
use Rattle.aig_model.specs.declared.aig.Aig.{Aig}
use Rattle.aig_model.specs.declared.aig.AigLatch.{AigLatch}
use Rattle.aig_model.specs.Literals.{is_odd, variable_of}
use Rattle.aig_model.specs.Netlist.{is_opposite, opposites, opposites_below}
use Rattle.aig_model.proofs.ModelLines.{opposite_from, opposite_of}
use Rattle.aig_reader.specs.private.Taken.{taken_opposite}

-- the numbers rise, from n on
abbrev Rises : ℕ → List ℕ → Type 0
Rises n [] = Unit {0}
Rises n (x ∷ xs) = (n ≤ x) × Rises (suc x) xs

rises_from : (n m : ℕ) (xs : List ℕ) → n ≤ m → Rises m xs → Rises n xs
rises_from n m [] h r = tt
rises_from n m (x ∷ xs) h r = (let lt = r.0 in omega arith, r.1)

at_least : (n : ℕ) (xs : List ℕ) (x : ℕ) → Rises n xs → In xs x → n ≤ x
at_least n [] x r h = absurd h
at_least n (y ∷ xs) x r (inl e) = let lt = r.0 in omega arith
at_least n (y ∷ xs) x r (inr h) = let lt = r.0 in let more = at_least (suc y) xs x r.1 h in omega
    arith

-- the same numbers
abbrev Same : List ℕ → List ℕ → Type 0
Same xs ys = ((x : ℕ) → In xs x → In ys x) × ((x : ℕ) → In ys x → In xs x)

head_below : (n x y : ℕ) (xs ys : List ℕ) → Rises n (y ∷ ys) → In (y ∷ ys) x → y ≤ x
head_below n x y xs ys r (inl e) = omega arith
head_below n x y xs ys r (inr h) = let more = at_least (suc y) ys x r.1 h in omega arith

tail_in : (x : ℕ) (xs ys : List ℕ) (z : ℕ) → Rises (suc x) xs → In xs z → In (x ∷ ys) z → In ys z
tail_in x xs ys z r h (inl e) = let more = at_least (suc x) xs z r h in absurd (omega arith)
tail_in x xs ys z r h (inr g) = g

one_list : (n : ℕ) (xs ys : List ℕ) → Rises n xs → Rises n ys → Same xs ys → xs ≡ ys
one_list n [] [] r s same = refl
one_list n [] (y ∷ ys) r s same = absurd (same.1 y (inl refl))
one_list n (x ∷ xs) [] r s same = absurd (same.0 x (inl refl))
one_list n (x ∷ xs) (y ∷ ys) r s same =
    let low = head_below n x y xs ys s (same.0 x (inl refl)) in
    let high = head_below n y x ys xs r (same.1 y (inl refl)) in
    let e : x ≡ y = omega arith in
    let s_x : Rises (suc x) ys = subst (λ k. Rises (suc k) ys) (sym e) s.1 in
    let there : Same (x ∷ xs) (x ∷ ys) = subst (λ k. Same (x ∷ xs) (k ∷ ys)) (sym e) same in
    (λ i. e i ∷ one_list (suc x) xs ys r.1 s_x (
      λ z h. tail_in x xs ys z r.1 h (there.0 z (inr h)),
      λ z h. tail_in x ys xs z s_x h (there.1
          z (inr h)),
    ) i)

rises_more : (n m : ℕ) (xs : List ℕ) → n ≤ m → Rises n xs → ((x : ℕ) → In xs x → x < m) →
    Rises n (xs ++ m ∷ [])
rises_more n m [] h r below = (h, tt)
rises_more n m (x ∷ xs) h r below = (
  r.0,
  rises_more (suc x) m xs (below x (inl refl)) r.1
      (λ y i. below y (inr i)),
)

below_bound : (latches : List AigLatch) (n x : ℕ) → In (opposites_below latches n) x → x < n
below_bound latches zero x h = absurd h
below_bound latches (suc n) x h = step (is_opposite latches n) (below_bound latches n x) h
  where
    last : In (n ∷ []) x → x < suc n
    last (inl e) = omega arith
    last (inr k) = absurd k

    step : (b : Bool) → (In (opposites_below latches n) x → x < n) →
        In (if b then opposites_below latches n ++ n ∷ [] else opposites_below latches n) x →
        x < suc n
    step true before g = elim (append_cases (opposites_below latches n) (n ∷ []) x g) as
        (λ _. x < suc n) [ inl i ↦ let lt = before i in omega arith | inr j ↦ last j ]
    step false before g = let lt = before g in omega arith

opposites_rise : (latches : List AigLatch) (n : ℕ) → Rises 0 (opposites_below latches n)
opposites_rise latches zero = tt
opposites_rise latches (suc n) = step (is_opposite latches n) (opposites_rise latches n)
  where
    step : (b : Bool) → Rises 0 (opposites_below latches n) →
        Rises 0 (if b then opposites_below latches n ++ n ∷ [] else opposites_below latches n)
    step true r = rises_more 0 n (opposites_below latches n) (omega arith) r (below_bound latches n)
    step false r = r

next : (k : ℕ) → suc k + 1 ≡ suc (k + 1)
next k = omega arith

later : (x : ℕ) (xs : List ℕ) → IsStrictlyIncreasing (x ∷ xs) → IsStrictlyIncreasing xs
later x xs r k lt = subst (λ m. slice_index xs k < slice_index (x ∷ xs) m) (next k) (r (suc k)
    (omega arith))

increasing_rises : (n : ℕ) (xs : List ℕ) → ((d : ℕ) → 0 < length xs → n ≤ get_or xs 0 d) →
    IsStrictlyIncreasing xs → Rises n xs
increasing_rises n [] h r = tt
increasing_rises n (x ∷ xs) h r = (
  h 0 (omega arith),
  increasing_rises (suc x) xs
      (λ d some. first xs d some r) (later x xs r),
)
  where
    first : (xs : List ℕ) (d : ℕ) → 0 < length xs → IsStrictlyIncreasing (x ∷ xs) →
        suc x ≤ get_or xs 0 d
    first [] d some r = absurd (omega arith)
    first (y ∷ xs) d some r = let lt = r 0 (omega arith) in omega arith

taken_at : (l : AigLatch) (v : ℕ) (b : Bool) → is_odd l.next ≡ b →
    (if b then Some (variable_of l.next) else None) ≡ Some v →
    (is_odd l.next ≡ true) × (variable_of l.next ≡ v)
taken_at l v true e f = (e, cc f)
taken_at l v false e f = absurd (cc f)

-- the variables whose opposites latches take, sorted and each once
pub sorted_opposites : (aig : Aig) (taken sorted : List ℕ) →
    taken ≡ filter_map taken_opposite aig.latches → IsPermutation taken sorted →
    IsSorted nat_cmp sorted → dedup eqb sorted ≡ opposites aig
sorted_opposites aig taken sorted e permuted sorts =
    one_list 0 (dedup eqb sorted) (opposites aig) (increasing_rises 0 (dedup eqb sorted)
    (λ d some. omega arith) (IsStrictlyIncreasing-dedup sorted sorts)) (opposites_rise
    aig.latches _)
    (there, back)
  where
    there : (x : ℕ) → In (dedup eqb sorted) x → In (opposites aig) x
    there x h =
        let c = Contains-from_dedup eqb sorted x (contains_from_in (dedup eqb sorted) x h) in
        let t : In (filter_map taken_opposite aig.latches) x = in_from_contains (filter_map
        taken_opposite aig.latches) x (subst
        (λ xs. Contains xs x) e (Contains-permutation sorted taken x (IsPermutation-sym taken
        sorted permuted) c)) in
        let r = filter_map_in taken_opposite aig.latches x t in
        let k = taken_at r.0 x (is_odd r.0.next) refl r.2 in
        subst (λ v. In (opposites aig) v) k.1 (opposite_of aig r.0 r.1 k.0)

    back : (x : ℕ) → In (opposites aig) x → In (dedup eqb sorted) x
    back x h =
        let r = opposite_from aig x h in
        let t : In (filter_map taken_opposite aig.latches) x = in_filter_map taken_opposite
        aig.latches r.0 x r.1 (rw r.2 (ap Some r.3)) in
        in_from_contains (dedup eqb sorted) x (Contains-dedup_nat sorted x (Contains-permutation
        taken sorted x permuted (subst (λ xs. Contains xs x) (sym e) (contains_from_in
        (filter_map taken_opposite aig.latches) x t))))
