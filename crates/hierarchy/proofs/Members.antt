-- Membership in a list by recursion on it, which inductions need; contracts say it by places.
use Rattle.std.proofs.Common.{◌≡◌, ℕ, zero, suc, ◌+◌, ◌<◌, Bool, true, false, not, List, [], ◌∷◌, ◌++◌, map, length, get_or, Option, None, Some, slice_get, arith, refl, sym, ap, subst, cond, ◌∙◌}
use Rattle.std.specs.Prelude.{◌⊎◌, Contains, flat_map, filter}
use Rattle.std.specs.List.{enumerate_from, AllZip, filter_map, cons_option, position_or_len}
use Rattle.std.proofs.lemmas.List.Sums.{passes_at_first}
use mathlib.Core.Logic.{inl, inr}

abbrev pub In : {X : Type 0} → List X → X → Type 0
In [] x = ⊥
In (y ∷ ys) x = (y ≡ x) ⊎ In ys x

zero_add : (k : ℕ) → 0 + k ≡ k
zero_add k = omega arith

module _ {X : Type 0} where
  pub in_append_left : (xs ys : List X) (x : X) → In xs x → In (xs ++ ys) x
  in_append_left [] ys x h = absurd h
  in_append_left (y ∷ xs) ys x (inl e) = inl e
  in_append_left (y ∷ xs) ys x (inr h) = inr (in_append_left xs ys x h)

  pub in_append_right : (xs ys : List X) (x : X) → In ys x → In (xs ++ ys) x
  in_append_right [] ys x h = h
  in_append_right (y ∷ xs) ys x h = inr (in_append_right xs ys x h)

  pub append_cases : (xs ys : List X) (x : X) → In (xs ++ ys) x → In xs x ⊎ In ys x
  append_cases [] ys x h = inr h
  append_cases (y ∷ xs) ys x (inl e) = inl (inl e)
  append_cases (y ∷ xs) ys x (inr h) = elim (append_cases xs ys x h) as (λ _. In (y ∷ xs) x ⊎ In ys x) [ inl a ↦ inl (inr a) | inr b ↦ inr b ]

  pub contains_from_in : (xs : List X) (x : X) → In xs x → Contains xs x
  contains_from_in [] x h = absurd h
  contains_from_in (y ∷ ys) x (inl e) = (0, omega arith, e)
  contains_from_in (y ∷ ys) x (inr h) = let c = contains_from_in ys x h in (suc c.0, omega arith, c.2)

  pub in_at : (xs : List X) (k : ℕ) (d : X) → k < length xs → In xs (get_or xs k d)
  in_at [] k d h = absurd (omega arith)
  in_at (y ∷ ys) zero d h = inl refl
  in_at (y ∷ ys) (suc k) d h = inr (in_at ys k d (omega arith))

  pub in_from_contains : (xs : List X) (x : X) → Contains xs x → In xs x
  in_from_contains xs x c = subst (λ y. In xs y) c.2 (in_at xs c.0 x c.1)

  pub in_enumerate : (xs : List X) (n k : ℕ) (x : X) → slice_get xs k ≡ Some x → In (enumerate_from n xs) (n + k, x)
  in_enumerate [] n k x e = absurd (cc)
  in_enumerate (y ∷ ys) n zero x e = inl (λ i. (omega_zero n i, some_same y x e i))
    where
      omega_zero : (n : ℕ) → n ≡ n + 0
      omega_zero n = omega arith

      some_same : (y x : X) → Some y ≡ Some x → y ≡ x
      some_same y x e = cc
  in_enumerate (y ∷ ys) n (suc k) x e = inr (subst (λ m. In (enumerate_from (n + 1) ys) (m, x)) (shift n k) (in_enumerate ys (n + 1) k x e))
    where
      shift : (n k : ℕ) → n + 1 + k ≡ n + suc k
      shift n k = omega arith

  pub enumerate_in : (xs : List X) (n : ℕ) (at : ℕ × X) → In (enumerate_from n xs) at → (k : ℕ) × (at.0 ≡ n + k) × (slice_get xs k ≡ Some at.1)
  enumerate_in [] n at h = absurd h
  enumerate_in (y ∷ ys) n at (inl e) = (0, first, ap (λ p. Some p.1) e)
    where
      first : at.0 ≡ n + 0
      first = let f : n ≡ at.0 = ap (λ p. p.0) e in omega arith
  enumerate_in (y ∷ ys) n at (inr h) = let r = enumerate_in ys (n + 1) at h in (suc r.0, omega arith, r.2)

  pub in_numbered : (xs : List X) (k : ℕ) (x : X) → slice_get xs k ≡ Some x → In (enumerate_from 0 xs) (k, x)
  in_numbered xs k x e = subst (λ m. In (enumerate_from 0 xs) (m, x)) (zero_add k) (in_enumerate xs 0 k x e)

  pub numbered_in : (xs : List X) (at : ℕ × X) → In (enumerate_from 0 xs) at → slice_get xs at.0 ≡ Some at.1
  numbered_in xs at h = let r = enumerate_in xs 0 at h in subst (λ m. slice_get xs m ≡ Some at.1) (sym (zero_add r.0) ∙ sym r.1) r.2

  pub in_get : (xs : List X) (k : ℕ) (x : X) → slice_get xs k ≡ Some x → In xs x
  in_get [] k x e = absurd (cc)
  in_get (y ∷ ys) zero x e = inl (cc)
  in_get (y ∷ ys) (suc k) x e = inr (in_get ys k x e)

module _ {X Y : Type 0} (f : X → List Y) where
  pub in_flat_map : (xs : List X) (x : X) (y : Y) → In xs x → In (f x) y → In (flat_map f xs) y
  in_flat_map [] x y h g = absurd h
  in_flat_map (z ∷ xs) x y (inl e) g = in_append_left (f z) (flat_map f xs) y (subst (λ w. In (f w) y) (sym e) g)
  in_flat_map (z ∷ xs) x y (inr h) g = in_append_right (f z) (flat_map f xs) y (in_flat_map xs x y h g)

  pub flat_map_in : (xs : List X) (y : Y) → In (flat_map f xs) y → (x : X) × In xs x × In (f x) y
  flat_map_in [] y h = absurd h
  flat_map_in (z ∷ xs) y h = elim (append_cases (f z) (flat_map f xs) y h) as (λ _. (x : X) × In (z ∷ xs) x × In (f x) y) [ inl a ↦ (z, inl refl, a) | inr b ↦ let r = flat_map_in xs y b in (r.0, inr r.1, r.2) ]

module _ {X Y : Type 0} (f : X → Y) where
  pub in_map : (xs : List X) (x : X) → In xs x → In (map f xs) (f x)
  in_map [] x h = absurd h
  in_map (z ∷ xs) x (inl e) = inl (ap f e)
  in_map (z ∷ xs) x (inr h) = inr (in_map xs x h)

  pub map_in : (xs : List X) (y : Y) → In (map f xs) y → (x : X) × In xs x × (f x ≡ y)
  map_in [] y h = absurd h
  map_in (z ∷ xs) y (inl e) = (z, inl refl, e)
  map_in (z ∷ xs) y (inr h) = let r = map_in xs y h in (r.0, inr r.1, r.2)

module _ {X : Type 0} (p : X → Bool) where
  pub in_filter : (xs : List X) (x : X) → In xs x → p x ≡ true → In (filter p xs) x
  in_filter [] x h e = absurd h
  in_filter (z ∷ xs) x (inl i) e = subst (λ b. In (cond b (z ∷ filter p xs) (filter p xs)) x) (sym e ∙ ap p (sym i)) (inl i)
  in_filter (z ∷ xs) x (inr h) e = by (p z) (in_filter xs x h e)
    where
      by : (b : Bool) → In (filter p xs) x → In (cond b (z ∷ filter p xs) (filter p xs)) x
      by true g = inr g
      by false g = g

  pub filter_in : (xs : List X) (x : X) → In (filter p xs) x → In xs x × (p x ≡ true)
  filter_in [] x h = absurd h
  filter_in (z ∷ xs) x h = by (filter_in xs x) (p z) refl h
    where
      by : (In (filter p xs) x → In xs x × (p x ≡ true)) → (b : Bool) → p z ≡ b → In (cond b (z ∷ filter p xs) (filter p xs)) x → In (z ∷ xs) x × (p x ≡ true)
      by again true e (inl i) = (inl i, ap p (sym i) ∙ e)
      by again true e (inr g) = let r = again g in (inr r.0, r.1)
      by again false e g = let r = again g in (inr r.0, r.1)

-- items of the second list have partners in the first, and the other way round
module _ {A B : Type 0} (R : A → B → Type 0) where
  pub zip_right : (xs : List A) (ys : List B) (y : B) → AllZip R xs ys → In ys y → (x : A) × In xs x × R x y
  zip_right [] [] y h g = absurd g
  zip_right [] (z ∷ ys) y h g = absurd h
  zip_right (x ∷ xs) [] y h g = absurd h
  zip_right (x ∷ xs) (z ∷ ys) y h (inl e) = (x, inl refl, subst (λ w. R x w) e h.0)
  zip_right (x ∷ xs) (z ∷ ys) y h (inr g) = let r = zip_right xs ys y h.1 g in (r.0, inr r.1, r.2)

  pub zip_left : (xs : List A) (ys : List B) (x : A) → AllZip R xs ys → In xs x → (y : B) × In ys y × R x y
  zip_left [] ys x h g = absurd g
  zip_left (z ∷ xs) [] x h g = absurd h
  zip_left (z ∷ xs) (y ∷ ys) x h (inl e) = (y, inl refl, subst (λ w. R w y) e h.0)
  zip_left (z ∷ xs) (y ∷ ys) x h (inr g) = let r = zip_left xs ys x h.1 g in (r.0, inr r.1, r.2)

module _ {X Y : Type 0} (f : X → Option Y) where
  pub in_filter_map : (xs : List X) (x : X) (y : Y) → In xs x → f x ≡ Some y → In (filter_map f xs) y
  in_filter_map [] x y h e = absurd h
  in_filter_map (z ∷ xs) x y (inl i) e = subst (λ r. In (cons_option r (filter_map f xs)) y) (sym e ∙ ap f (sym i)) (inl refl)
  in_filter_map (z ∷ xs) x y (inr h) e = by (f z) (in_filter_map xs x y h e)
    where
      by : (r : Option Y) → In (filter_map f xs) y → In (cons_option r (filter_map f xs)) y
      by None g = g
      by (Some w) g = inr g

  pub filter_map_in : (xs : List X) (y : Y) → In (filter_map f xs) y → (x : X) × In xs x × (f x ≡ Some y)
  filter_map_in [] y h = absurd h
  filter_map_in (z ∷ xs) y h = by (filter_map_in xs y) (f z) refl h
    where
      by : (In (filter_map f xs) y → (x : X) × In xs x × (f x ≡ Some y)) → (r : Option Y) → f z ≡ r → In (cons_option r (filter_map f xs)) y → (x : X) × In (z ∷ xs) x × (f x ≡ Some y)
      by again None e g = let r = again g in (r.0, inr r.1, r.2)
      by again (Some w) e (inl i) = (z, inl refl, e ∙ ap Some i)
      by again (Some w) e (inr g) = let r = again g in (r.0, inr r.1, r.2)

-- a test that is equality finds a member, and there is the member itself
module _ {X : Type 0} (test : X → Bool) (x : X) (passes : test x ≡ true) (only : (y : X) → test y ≡ true → x ≡ y) where
  pub found : (xs : List X) → In xs x → position_or_len test xs < length xs
  found [] h = absurd h
  found (y ∷ ys) (inl e) = rw (e, passes) (omega arith)
  found (y ∷ ys) (inr h) = by (test y) (found ys h)
    where
      by : (b : Bool) → position_or_len test ys < length ys → cond (not b) (1 + position_or_len test ys) 0 < suc (length ys)
      by true g = omega arith
      by false g = omega arith

  pub at_found : (xs : List X) (d : X) → In xs x → get_or xs (position_or_len test xs) d ≡ x
  at_found xs d h = sym (only (get_or xs (position_or_len test xs) d) (passes_at_first test xs d (found xs h)))
