-- What signals are bound to, one binding at a time.
use Rattle.std.proofs.Common.{◌≡◌, ℕ, zero, suc, ◌+◌, ◌-◌, ◌<◌, ◌≤◌, not, Bool, true, false, cond, List, [], ◌∷◌, map, length, get_or, set, drop, Option, None, Some, refl, sym, ap, ◌∙◌, subst, arith}
use Rattle.std.specs.Prelude.{bytes_eq, find, nat_lt, option_map, position, unwrap_or}
use Rattle.std.specs.List.{AllByRecursion, IsDistinct, position_or_len}
use Rattle.std.proofs.lemmas.Bool.Decides.{nat_tests}
use Rattle.std.proofs.lemmas.List.{drop_all, length-map}
use Rattle.std.proofs.lemmas.List.Sums.{passes_at_first, prefix_len-le-length}
use Rattle.std.proofs.lemmas.Slice.Eq.{bytes_eq-Decides}
use Rattle.instances.specs.Numbers.{bound_number}

-- the first binding counts
pub one_binding : (number : List ℕ → ℕ) (first : List ℕ × List ℕ) (bindings : List (List ℕ × List ℕ)) (signal : List ℕ) → bound_number number (first ∷ bindings) signal ≡ cond (bytes_eq first.0 signal) (Some (number first.1)) (bound_number number bindings signal)
one_binding number first bindings signal = by (bytes_eq first.0 signal)
  where
    by : (b : Bool) → option_map (λ (binding : List ℕ × List ℕ). number binding.1) (cond b (Some first) (find (λ binding. bytes_eq binding.0 signal) bindings)) ≡ cond b (Some (number first.1)) (bound_number number bindings signal)
    by true = refl
    by false = refl

or_len : (n m : ℕ) → n ≤ m → unwrap_or (cond (nat_lt n m) (Some n) None) m ≡ n
or_len n m h = grind (arith, nat_tests)

pub place_or_len : {X : Type 0} (p : X → Bool) (xs : List X) → unwrap_or (position p xs) (length xs) ≡ position_or_len p xs
place_or_len p xs = or_len (position_or_len p xs) (length xs) (prefix_len-le-length (λ x. not (p x)) xs)

-- nothing is bound by no bindings
pub empty_bounds : (number : List ℕ → ℕ) (bindings : List (List ℕ × List ℕ)) (names : List (List ℕ)) → map (λ name. None) names ≡ map (bound_number number (drop (length bindings) bindings)) names
empty_bounds number bindings names = ap (λ bs. map (bound_number number bs) names) (sym (drop_all (length bindings) bindings (omega arith)))

both : {A : Type 0} {x y : A} {xs ys : List A} → x ≡ y → xs ≡ ys → x ∷ xs ≡ y ∷ ys
both {A} {x} {y} {xs} {ys} e f = ap (λ z. z ∷ xs) e ∙ ap (λ l. y ∷ l) f

-- a name that is none of the names changes nothing
none_changed : (f : List ℕ → Option ℕ) (number : ℕ) (formal : List ℕ) (names : List (List ℕ)) → AllByRecursion (λ name. bytes_eq formal name ≡ false) names → map f names ≡ map (λ name. cond (bytes_eq formal name) (Some number) (f name)) names
none_changed f number formal [] h = refl
none_changed f number formal (name ∷ names) h = both (ap (λ b. cond b (Some number) (f name)) (sym h.0)) (none_changed f number formal names h.1)

-- a word differs from those behind it
differs : (name formal : List ℕ) (names : List (List ℕ)) (k : ℕ) → AllByRecursion (λ other. bytes_eq name other ≡ false) names → k < length names → bytes_eq formal (get_or names k []) ≡ true → bytes_eq formal name ≡ false
differs name formal [] k h low at = absurd (omega arith)
differs name formal (other ∷ names) zero h low at = by (bytes_eq formal name) refl
  where
    by : (b : Bool) → bytes_eq formal name ≡ b → b ≡ false
    by false e = refl
    by true e = sym ((bytes_eq-Decides name other).1 (sym ((bytes_eq-Decides formal name).0 e) ∙ (bytes_eq-Decides formal other).0 at)) ∙ h.0
differs name formal (other ∷ names) (suc k) h low at = differs name formal names k h.1 (omega arith) at

-- where the names are distinct, a write at the place of a name changes what that name has, and no other
pub one_bound : (f : List ℕ → Option ℕ) (number : ℕ) (formal : List ℕ) (names : List (List ℕ)) (k : ℕ) → IsDistinct bytes_eq names → k < length names → bytes_eq formal (get_or names k []) ≡ true → set (map f names) k (Some number) ≡ map (λ name. cond (bytes_eq formal name) (Some number) (f name)) names
unfolding IsDistinct
one_bound f number formal [] k d low at = absurd (omega arith)
one_bound f number formal (name ∷ names) zero d low at =
    both (ap (λ b. cond b (Some number) (f name)) (sym at))
    (none_changed f number formal names (subst (λ w. AllByRecursion (λ y. bytes_eq w y ≡ false) names) (sym ((bytes_eq-Decides formal name).0 at)) d.0))
one_bound f number formal (name ∷ names) (suc k) d low at =
    both (ap (λ b. cond b (Some number) (f name)) (sym (differs name formal names k d.0 (omega arith) at)))
    (one_bound f number formal names k d.1 (omega arith) at)

-- one more binding, before the others
pub one_more : (number : List ℕ → ℕ) (first : List ℕ × List ℕ) (bindings : List (List ℕ × List ℕ)) (names : List (List ℕ)) → map (λ name. cond (bytes_eq first.0 name) (Some (number first.1)) (bound_number number bindings name)) names ≡ map (bound_number number (first ∷ bindings)) names
one_more number first bindings [] = refl
one_more number first bindings (name ∷ names) = both (sym (one_binding number first bindings name)) (one_more number first bindings names)

pub place_is : {X : Type 0} (p : X → Bool) (xs : List X) (place n : ℕ) (found : Option ℕ) → place ≡ unwrap_or found n → found ≡ position p xs → n ≡ length xs → place ≡ position_or_len p xs
place_is p xs place n found e f g = e ∙ ap (λ o. unwrap_or o n) f ∙ ap (λ m. unwrap_or (position p xs) m) g ∙ place_or_len p xs

-- a name whose place is behind the names is none of them
behind : (formal : List ℕ) (names : List (List ℕ)) → length names ≤ position_or_len (bytes_eq formal) names → AllByRecursion (λ name. bytes_eq formal name ≡ false) names
behind formal [] h = tt
behind formal (name ∷ names) h = by (bytes_eq formal name) refl h (behind formal names)
  where
    by : (b : Bool) → bytes_eq formal name ≡ b → suc (length names) ≤ cond (not b) (1 + position_or_len (bytes_eq formal) names) 0 → (length names ≤ position_or_len (bytes_eq formal) names → AllByRecursion (λ name. bytes_eq formal name ≡ false) names) → AllByRecursion (λ name. bytes_eq formal name ≡ false) (name ∷ names)
    by true t low again = absurd (omega arith)
    by false t low again = (t, again (omega arith))

module _ (f : List ℕ → Option ℕ) (number : ℕ) (formal : List ℕ) (names : List (List ℕ)) (bounds : List (Option ℕ)) (place : ℕ) where
  pub bound_at : bounds ≡ map f names → place ≡ position_or_len (bytes_eq formal) names → place < length bounds → IsDistinct bytes_eq names → set bounds place (Some number) ≡ map (λ name. cond (bytes_eq formal name) (Some number) (f name)) names
  bound_at e at low d =
      let long : length bounds ≡ length names = ap (λ l. length l) e ∙ length-map names f in
      let here : position_or_len (bytes_eq formal) names < length names = omega (arith, at, low, long) in
      ap (λ l. set l place (Some number)) e ∙ one_bound f number formal names place d (omega arith)
      (ap (λ k. bytes_eq formal (get_or names k [])) at ∙ passes_at_first (bytes_eq formal) names [] here)

  pub bound_nowhere : bounds ≡ map f names → place ≡ position_or_len (bytes_eq formal) names → length bounds ≤ place → bounds ≡ map (λ name. cond (bytes_eq formal name) (Some number) (f name)) names
  bound_nowhere e at high =
      let long : length bounds ≡ length names = ap (λ l. length l) e ∙ length-map names f in
      e ∙ none_changed f number formal names (behind formal names (omega (arith, at, high, long)))

drop_next : {X : Type 0} (xs : List X) (k : ℕ) (d : X) → k < length xs → drop k xs ≡ get_or xs k d ∷ drop (suc k) xs
drop_next [] k d h = absurd (omega arith)
drop_next (x ∷ xs) zero d h = refl
drop_next (x ∷ xs) (suc k) d h = drop_next xs k d (omega arith)

-- the binding before those that are bound already
pub bound_next : (number : List ℕ → ℕ) (bindings : List (List ℕ × List ℕ)) (names : List (List ℕ)) (left : ℕ) (first : List ℕ × List ℕ) (bound : ℕ) → 0 < left → left ≤ length bindings → first ≡ get_or bindings (left - 1) first → bound ≡ number first.1 → map (λ name. cond (bytes_eq first.0 name) (Some bound) (bound_number number (drop left bindings) name)) names ≡ map (bound_number number (drop (left - 1) bindings)) names
bound_next number bindings names zero first bound h low at e = absurd (omega arith)
bound_next number bindings names (suc k) first bound h low at e =
    let back : suc k - 1 ≡ k = omega arith in
    let here : drop k bindings ≡ first ∷ drop (suc k) bindings = drop_next bindings k first (omega arith) ∙ ap (λ x. x ∷ drop (suc k) bindings) (ap (λ j. get_or bindings j first) (sym back) ∙ sym at) in
    ap (λ b. map (λ name. cond (bytes_eq first.0 name) (Some b) (bound_number number (drop (suc k) bindings) name)) names) e
    ∙ one_more number first (drop (suc k) bindings) names
    ∙ ap (λ bs. map (bound_number number bs) names) (sym here ∙ ap (λ j. drop j bindings) (sym back))
