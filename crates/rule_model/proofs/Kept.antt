-- Lists of quintuples that are met.
use Rattle.std.proofs.Common.{◌≡◌, ℕ, ◌<◌, ◌≤◌, ◌+◌, ◌-◌, zero, suc, Bool, true, false, not, List, [], ◌∷◌, ◌++◌, map, length, max, arith, ap, refl, sym, subst, ◌∙◌, inl, inr}
use Rattle.std.specs.Prelude.{◌==◌, Contains, IsTrue, Some, slice_get, slice_index_or, if◌then◌else◌}
use Rattle.dd_nodes.proofs.Members.{Contains-none, Contains-cons_cases}
use Rattle.bool_expr.specs.Tree.{Tree, Trees, bit, place, opposite, under, none, more}
use Rattle.bool_expr.specs.TreeValue.{sign_value, tree_value, tree_values}
use Rattle.ste_model.specs.Trees.{QuintTree}
use Rattle.rule_model.specs.Claims.{MeetsAll, MeetsQuint, latest_of}
use Rattle.rule_model.specs.Rules.{AreCoveredBy, ArePicked, IsCoveredBy, later_by, substitute, substitute_in, substitute_all}

pub met_append : (bits : List Bool) (run : ℕ → ℕ → Bool) (xs ys : List QuintTree) → MeetsAll bits run xs → MeetsAll bits run ys → MeetsAll bits run (xs ++ ys)
met_append bits run [] ys a b = b
met_append bits run (x ∷ xs) ys a b = (a.0, met_append bits run xs ys a.1 b)

pub met_left : (bits : List Bool) (run : ℕ → ℕ → Bool) (xs ys : List QuintTree) → MeetsAll bits run (xs ++ ys) → MeetsAll bits run xs
met_left bits run [] ys a = tt
met_left bits run (x ∷ xs) ys a = (a.0, met_left bits run xs ys a.1)

pub met_right : (bits : List Bool) (run : ℕ → ℕ → Bool) (xs ys : List QuintTree) → MeetsAll bits run (xs ++ ys) → MeetsAll bits run ys
met_right bits run [] ys a = a
met_right bits run (x ∷ xs) ys a = met_right bits run xs ys a.1

pub latest_append : (xs ys : List QuintTree) → latest_of (xs ++ ys) ≡ max (latest_of xs) (latest_of ys)
latest_append [] ys = omega arith
latest_append (x ∷ xs) ys = let h = latest_append xs ys in omega (arith, h)

-- runs with the same bits below the last time meet the same
pub met_same : (bits : List Bool) (run other : ℕ → ℕ → Bool) (n : ℕ) (xs : List QuintTree) → latest_of xs ≤ n → ((t : ℕ) → t < n → other t ≡ run t) → MeetsAll bits run xs → MeetsAll bits other xs
met_same bits run other n [] l same a = tt
met_same bits run other n (x ∷ xs) l same a = (
  λ on t after before. ap (λ (f : ℕ → Bool). f x.node) (same t (omega (arith, l, before))) ∙ a.0 on t after before,
  met_same bits run other n xs (omega (arith, l)) same a.1,
)

pub met_one : (bits : List Bool) (run : ℕ → ℕ → Bool) (xs : List QuintTree) (x : QuintTree) → MeetsAll bits run xs → Contains xs x → MeetsQuint bits run x
met_one bits run [] x a c = absurd (Contains-none x c)
met_one bits run (y ∷ xs) x a c = elim (Contains-cons_cases y xs x c) [
  | inl e ↦ subst (MeetsQuint bits run) e a.0
  | inr d ↦ met_one bits run xs x a.1 d
]

met_covered : (bits : List Bool) (run : ℕ → ℕ → Bool) (others : List QuintTree) (x : QuintTree) → MeetsAll bits run others → IsCoveredBy others x → MeetsQuint bits run x
met_covered bits run others x a (inl e) on t after before = absurd (omega (arith, e, after, before))
met_covered bits run others x a (inr some) on t after before =
    let here = met_one bits run others some.0 a some.1 in
    let guard = subst (λ (g : Tree). IsTrue (tree_value bits g)) (sym some.2) on in
    let bit = here guard t (omega (arith, some.5, after)) (omega (arith, some.6, before)) in
    ap (λ (id : ℕ). run t id) (sym some.3) ∙ bit ∙ ap (tree_value bits) some.4

pub met_by_cover : (bits : List Bool) (run : ℕ → ℕ → Bool) (others xs : List QuintTree) → MeetsAll bits run others → AreCoveredBy others xs → MeetsAll bits run xs
met_by_cover bits run others [] a c = tt
met_by_cover bits run others (x ∷ xs) a c = (met_covered bits run others x a c.0, met_by_cover bits run others xs a c.1)

met_at : (bits : List Bool) (run : ℕ → ℕ → Bool) (xs : List QuintTree) (n : ℕ) (x : QuintTree) → slice_get xs n ≡ Some x → MeetsAll bits run xs → MeetsQuint bits run x
met_at bits run [] n x e a = absurd (cc e)
met_at bits run (y ∷ xs) zero x e a = let same : y ≡ x = cc in subst (MeetsQuint bits run) same a.0
met_at bits run (y ∷ xs) (suc n) x e a = met_at bits run xs n x e a.1

pub met_picked : (bits : List Bool) (run : ℕ → ℕ → Bool) (xs : List QuintTree) (numbers : List ℕ) (picked : List QuintTree) → ArePicked xs numbers picked → MeetsAll bits run xs → MeetsAll bits run picked
met_picked bits run xs [] [] p a = tt
met_picked bits run xs [] (q ∷ picked) p a = absurd p
met_picked bits run xs (n ∷ numbers) [] p a = absurd p
met_picked bits run xs (n ∷ numbers) (q ∷ picked) p a = (met_at bits run xs n q p.0 a, met_picked bits run xs numbers picked p.1 a)

latest_at : (xs : List QuintTree) (n : ℕ) (x : QuintTree) → slice_get xs n ≡ Some x → x.to ≤ latest_of xs
latest_at [] n x e = absurd (cc e)
latest_at (y ∷ xs) zero x e = let same : y ≡ x = cc in let to : y.to ≡ x.to = ap (λ (q : QuintTree). q.to) same in omega (arith, to)
latest_at (y ∷ xs) (suc n) x e = let h = latest_at xs n x e in omega (arith, h)

pub latest_picked : (xs : List QuintTree) (numbers : List ℕ) (picked : List QuintTree) → ArePicked xs numbers picked → latest_of picked ≤ latest_of xs
latest_picked xs [] [] p = omega arith
latest_picked xs [] (q ∷ picked) p = absurd p
latest_picked xs (n ∷ numbers) [] p = absurd p
latest_picked xs (n ∷ numbers) (q ∷ picked) p =
    let h = latest_at xs n q p.0 in
    let rest = latest_picked xs numbers picked p.1 in
    omega (arith, h, rest)

-- ---- later

pub latest_later : (n : ℕ) (xs : List QuintTree) → latest_of (map (later_by n) xs) ≤ latest_of xs + n
latest_later n [] = omega arith
latest_later n (x ∷ xs) = let h = latest_later n xs in omega (arith, h)

pub met_earlier : (bits : List Bool) (run : ℕ → ℕ → Bool) (n : ℕ) (xs : List QuintTree) → MeetsAll bits run (map (later_by n) xs) → MeetsAll bits (λ t. run (t + n)) xs
met_earlier bits run n [] a = tt
met_earlier bits run n (x ∷ xs) a = (λ on t after before. a.0 on (t + n) (omega (arith, after)) (omega (arith, before)), met_earlier bits run n xs a.1)

pub met_later : (bits : List Bool) (run : ℕ → ℕ → Bool) (n : ℕ) (xs : List QuintTree) → MeetsAll bits (λ t. run (t + n)) xs → MeetsAll bits run (map (later_by n) xs)
met_later bits run n [] a = tt
met_later bits run n (x ∷ xs) a = (
  λ on t after before.
      let e : (t - n) + n ≡ t = omega (arith, after) in
      ap (λ (i : ℕ). run i x.node) (sym e) ∙ a.0 on (t - n) (omega (arith, after)) (omega (arith, after, before)),
  met_later bits run n xs a.1,
)

-- ---- another bit for a variable

pub put_bit : ℕ → Bool → List Bool → List Bool
put_bit n b [] = []
put_bit zero b (c ∷ bits) = b ∷ bits
put_bit (suc n) b (c ∷ bits) = c ∷ put_bit n b bits

pub put_long : (n : ℕ) (b : Bool) (bits : List Bool) → length (put_bit n b bits) ≡ length bits
unfolding put_bit
put_long n b [] = refl
put_long zero b (c ∷ bits) = omega arith
put_long (suc n) b (c ∷ bits) = let h = put_long n b bits in omega (arith, h)

put_same : (n : ℕ) (b : Bool) (bits : List Bool) → n < length bits → slice_index_or (put_bit n b bits) n false ≡ b
unfolding put_bit
put_same n b [] l = absurd (omega arith)
put_same zero b (c ∷ bits) l = refl
put_same (suc n) b (c ∷ bits) l = put_same n b bits (omega (arith, l))

put_other : (n m : ℕ) (b : Bool) (bits : List Bool) → (m ≡ n → ⊥) → slice_index_or (put_bit n b bits) m false ≡ slice_index_or bits m false
unfolding put_bit
put_other n m b [] apart = refl
put_other zero zero b (c ∷ bits) apart = absurd (apart refl)
put_other zero (suc m) b (c ∷ bits) apart = refl
put_other (suc n) zero b (c ∷ bits) apart = refl
put_other (suc n) (suc m) b (c ∷ bits) apart = put_other n m b bits (λ e. apart (ap suc e))

module _ (bits : List Bool) (x : ℕ) (by : Tree) (low : x < length bits) where
  place_value : (m : ℕ) (same : Bool) → (m == x) ≡ same → tree_value bits (if same then by else place m) ≡ slice_index_or (put_bit x (tree_value bits by) bits) m false
  place_value m true e = let same : m ≡ x = grind (arith, e) in sym (ap (λ (i : ℕ). slice_index_or (put_bit x (tree_value bits by) bits) i false) same ∙ put_same x (tree_value bits by) bits low)
  place_value m false e = let apart : (m ≡ x → ⊥) = λ (same : m ≡ x). grind (arith, e, same) in sym (put_other x m (tree_value bits by) bits apart)

  mutual
    substitute_value : (tree : Tree) → tree_value bits (substitute x by tree) ≡ tree_value (put_bit x (tree_value bits by) bits) tree
    substitute_value (bit b) = refl
    substitute_value (place m) = place_value m (m == x) refl
    substitute_value (opposite part) = ap not (substitute_value part)
    substitute_value (under s parts) = ap (sign_value s) (substitute_all_value parts)

    substitute_all_value : (parts : Trees) → tree_values bits (substitute_all x by parts) ≡ tree_values (put_bit x (tree_value bits by) bits) parts
    substitute_all_value none = refl
    substitute_all_value (more part parts) =
        let here = substitute_value part in
        let rest = substitute_all_value parts in
        cc

  pub met_put : (run : ℕ → ℕ → Bool) (xs : List QuintTree) → MeetsAll bits run (map (substitute_in x by) xs) → MeetsAll (put_bit x (tree_value bits by) bits) run xs
  met_put run [] a = tt
  met_put run (q ∷ xs) a = (
    λ on t after before. a.0 (subst IsTrue (sym (substitute_value q.guard)) on) t after before ∙ substitute_value q.value,
    met_put run xs a.1,
  )

  pub put_met : (run : ℕ → ℕ → Bool) (xs : List QuintTree) → MeetsAll (put_bit x (tree_value bits by) bits) run xs → MeetsAll bits run (map (substitute_in x by) xs)
  put_met run [] a = tt
  put_met run (q ∷ xs) a = (
    λ on t after before. a.0 (subst IsTrue (substitute_value q.guard) on) t after before ∙ sym (substitute_value q.value),
    put_met run xs a.1,
  )

pub latest_put : (x : ℕ) (by : Tree) (xs : List QuintTree) → latest_of (map (substitute_in x by) xs) ≡ latest_of xs
latest_put x by [] = refl
latest_put x by (q ∷ xs) = let h = latest_put x by xs in omega (arith, h)
