-- What the instances of a hierarchy weigh, by models as numbers, is what the hierarchy has.
use Rattle.std.proofs.Common.{◌≡◌, ◌<◌, ◌+◌, ℕ, zero, suc, List, [], ◌∷◌, ◌++◌, length, length-append, Option, None, Some, get_or, min, arith, refl, ap, ◌∙◌, inl, inr, subst}
use Rattle.std.proofs.lemmas.List.Sums.{sum_by-cons}
use Rattle.std.specs.Prelude.{filter_map, flat_map, sum_by}
use Rattle.std.specs.List.{cons_option, enumerate_from}
use Rattle.hierarchy.specs.private.Counts.{at_number, sum_of, weight_below}
use Rattle.hierarchy.proofs.Members.{In, contains_from_in}

-- sums
pub min_add : (cap a b c d : ℕ) → min cap a ≡ min cap b → min cap c ≡ min cap d → min cap (a + c) ≡ min cap (b + d)
min_add cap a b c d e f = omega arith

pub min_twice : (cap a : ℕ) → min cap (min cap a) ≡ min cap a
min_twice cap a = omega arith

module _ {X : Type 0} where
  pub sum_same : (f g : X → ℕ) (xs : List X) → ((x : X) → In xs x → f x ≡ g x) → sum_of f xs ≡ sum_of g xs
  sum_same f g [] each = refl
  sum_same f g (x ∷ xs) each = let here = each x (inl refl) in let rest = sum_same f g xs (λ y h. each y (inr h)) in omega arith

  pub sum_capped : (cap : ℕ) (f g : X → ℕ) (xs : List X) → ((x : X) → In xs x → min cap (f x) ≡ min cap (g x)) → min cap (sum_of f xs) ≡ min cap (sum_of g xs)
  sum_capped cap f g [] each = refl
  sum_capped cap f g (x ∷ xs) each = min_add cap (f x) (g x) (sum_of f xs) (sum_of g xs) (each x (inl refl)) (sum_capped cap f g xs (λ y h. each y (inr h)))

  pub sum_plus : (f g : X → ℕ) (xs : List X) → sum_of (λ x. f x + g x) xs ≡ sum_of f xs + sum_of g xs
  sum_plus f g [] = refl
  sum_plus f g (x ∷ xs) = let rest = sum_plus f g xs in omega arith

  pub sum_append : (f : X → ℕ) (xs ys : List X) → sum_of f (xs ++ ys) ≡ sum_of f xs + sum_of f ys
  sum_append f [] ys = omega arith
  sum_append f (x ∷ xs) ys = let rest = sum_append f xs ys in omega arith

  -- std's sum is this one
  pub sum_by_is : (f : X → ℕ) (xs : List X) → sum_by f xs ≡ sum_of f xs
  sum_by_is f [] = refl
  sum_by_is f (x ∷ xs) = let here = sum_by-cons f x xs in let rest = sum_by_is f xs in omega arith

module _ {X Y : Type 0} where
  pub sum_flat_map : (f : Y → ℕ) (g : X → List Y) (xs : List X) → sum_of f (flat_map g xs) ≡ sum_of (λ x. sum_of f (g x)) xs
  sum_flat_map f g [] = refl
  sum_flat_map f g (x ∷ xs) = let here = sum_append f (g x) (flat_map g xs) in let rest = sum_flat_map f g xs in omega arith

  pub length_flat_map : (g : X → List Y) (xs : List X) → length (flat_map g xs) ≡ sum_of (λ x. length (g x)) xs
  length_flat_map g [] = refl
  length_flat_map g (x ∷ xs) = let here = length-append (g x) (flat_map g xs) in let rest = length_flat_map g xs in omega arith

module _ {X : Type 0} where
  -- what is at the numbers that a function gives
  pub sum_numbers : (f : ℕ → ℕ) (number : X → Option ℕ) (xs : List X) → sum_of (λ x. at_number f (number x)) xs ≡ sum_of f (filter_map number xs)
  sum_numbers f number [] = refl
  sum_numbers f number (x ∷ xs) = by (number x) (sum_numbers f number xs)
    where
      by : (o : Option ℕ) → sum_of (λ x. at_number f (number x)) xs ≡ sum_of f (filter_map number xs) → at_number f o + sum_of (λ x. at_number f (number x)) xs ≡ sum_of f (cons_option o (filter_map number xs))
      by None e = omega arith
      by (Some k) e = omega arith

  pub sum_numbered : (g : X → ℕ) (start : ℕ) (xs : List X) → sum_of (λ at. g at.1) (enumerate_from start xs) ≡ sum_of g xs
  sum_numbered g start [] = refl
  sum_numbered g start (x ∷ xs) = let rest = sum_numbered g (start + 1) xs in omega arith

  pub sum_none : (xs : List X) → sum_of (λ x. 0) xs ≡ 0
  sum_none [] = refl
  sum_none (x ∷ xs) = let rest = sum_none xs in omega arith

-- counts with one more level
pub one_level : (graph : List (List ℕ)) (own counts : List ℕ) (cap n k : ℕ) → ((j : ℕ) → j < length graph → get_or counts j 0 ≡ min cap (weight_below graph own n j)) → ((i e : ℕ) → i < length (get_or graph k []) → get_or (get_or graph k []) i e < length graph) → min cap (get_or own k 0 + sum_of (λ j. get_or counts j 0) (get_or graph k [])) ≡ min cap (weight_below graph own (n + 1) k)
one_level graph own counts cap n k each low =
    subst (λ m. min cap (get_or own k 0 + sum_of (λ j. get_or counts j 0) (get_or graph k [])) ≡ min cap (weight_below graph own m k)) (next n)
    (min_add cap (get_or own k 0) (get_or own k 0) (sum_of (λ j. get_or counts j 0) (get_or graph k [])) (sum_of (weight_below graph own n) (get_or graph k [])) refl
    (sum_capped cap (λ j. get_or counts j 0) (weight_below graph own n) (get_or graph k [])
    (λ x h. let c = contains_from_in (get_or graph k []) x h in ap (min cap) (each x (subst (λ y. y < length graph) c.2 (low c.0 x c.1))) ∙ min_twice cap (weight_below graph own n x))))
  where
    next : (n : ℕ) → suc n ≡ n + 1
    next n = omega arith

-- weights that are the same up to the cap
pub below_capped : (graph : List (List ℕ)) (own other : List ℕ) (cap : ℕ) → ((k : ℕ) → min cap (get_or own k 0) ≡ min cap (get_or other k 0)) → (levels k : ℕ) → min cap (weight_below graph own levels k) ≡ min cap (weight_below graph other levels k)
below_capped graph own other cap each zero k = refl
below_capped graph own other cap each (suc levels) k =
    min_add cap (get_or own k 0) (get_or other k 0) (sum_of (weight_below graph own levels) (get_or graph k [])) (sum_of (weight_below graph other levels) (get_or graph k [])) (each k)
    (sum_capped cap (weight_below graph own levels) (weight_below graph other levels) (get_or graph k []) (λ x h. below_capped graph own other cap each levels x))
