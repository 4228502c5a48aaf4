-- A circle that the top reaches has steps without end.
use Rattle.std.proofs.Common.{◌≡◌, ◌<◌, ◌≤◌, ◌+◌, ℕ, zero, suc, Bool, true, false, ◌||◌, List, [], ◌∷◌, ◌++◌, length, length-append, Option, None, Some, get_or, slice_get, arith, refl, sym, ap, ◌∙◌, inl, inr, subst, true≢false}
use Rattle.std.specs.Prelude.{option_and_then}
use Rattle.std.specs.List.{list_any}
use Rattle.hierarchy.specs.Reach.{Reaches, led_to}
use Rattle.hierarchy.specs.private.Depth.{has_steps}
use Rattle.hierarchy.proofs.Members.{In, contains_from_in, in_get}

-- steps behind steps
pub joined : (graph : List (List ℕ)) (a b c : ℕ) (first more : List ℕ) → led_to graph a first ≡ Some b → led_to graph b more ≡ Some c → led_to graph a (more ++ first) ≡ Some c
joined graph a b c first [] e f = e ∙ f
joined graph a b c first (n ∷ more) e f = by (led_to graph b more) refl f (λ d. joined graph a b d first more e)
  where
    by : (o : Option ℕ) → led_to graph b more ≡ o → option_and_then (λ k. slice_get (get_or graph k []) n) o ≡ Some c → ((d : ℕ) → led_to graph b more ≡ Some d → led_to graph a (more ++ first) ≡ Some d) → led_to graph a ((n ∷ more) ++ first) ≡ Some c
    by None is e again = absurd (cc)
    by (Some d) is e again = ap (λ o. option_and_then (λ k. slice_get (get_or graph k []) n) o) (again d is) ∙ e

-- a model that is reached and lies on a circle is reached by any number of steps and more
circles : (graph : List (List ℕ)) (top m : ℕ) (first circle : List ℕ) → led_to graph top first ≡ Some m → led_to graph m circle ≡ Some m → 0 < length circle → (d : ℕ) → (path : List ℕ) × (led_to graph top path ≡ Some m) × (d ≤ length path)
circles graph top m first circle e c h zero = (first, e, omega arith)
circles graph top m first circle e c h (suc d) =
    let r = circles graph top m first circle e c h d in
    let l = length-append circle r.0 in
    (circle ++ r.0, joined graph top m m r.0 circle r.1 c, omega arith)

any_of : (p : ℕ → Bool) (xs : List ℕ) (x : ℕ) → In xs x → p x ≡ true → list_any p xs ≡ true
any_of p [] x h e = absurd h
any_of p (y ∷ xs) x (inl same) e = let here : p y ≡ true = ap p same ∙ e in rw here refl
any_of p (y ∷ xs) x (inr h) e = by (p y) (any_of p xs x h e)
  where
    by : (b : Bool) → list_any p xs ≡ true → (b || list_any p xs) ≡ true
    by true r = refl
    by false r = r

any_weaker : (p q : ℕ → Bool) (xs : List ℕ) → ((x : ℕ) → p x ≡ true → q x ≡ true) → list_any p xs ≡ true → list_any q xs ≡ true
any_weaker p q [] each e = e
any_weaker p q (x ∷ xs) each e = by (p x) refl e (any_weaker p q xs each)
  where
    more : (b : Bool) → list_any q xs ≡ true → (b || list_any q xs) ≡ true
    more true r = refl
    more false r = r

    by : (b : Bool) → p x ≡ b → (b || list_any p xs) ≡ true → (list_any p xs ≡ true → list_any q xs ≡ true) → list_any q (x ∷ xs) ≡ true
    by true is e again = rw (each x is) refl
    by false is e again = more (q x) (again e)

any_same : (p q : ℕ → Bool) (xs : List ℕ) → ((x : ℕ) → In xs x → p x ≡ q x) → list_any p xs ≡ list_any q xs
any_same p q [] each = refl
any_same p q (x ∷ xs) each = let here = each x (inl refl) in let rest = any_same p q xs (λ y h. each y (inr h)) in rw (here, rest) refl

-- marks of the models with some steps make those of the models with one more step
pub one_more : (graph : List (List ℕ)) (marks : List Bool) (n k : ℕ) → ((j : ℕ) → j < length graph → get_or marks j false ≡ has_steps graph n j) → ((i e : ℕ) → i < length (get_or graph k []) → get_or (get_or graph k []) i e < length graph) → list_any (λ j. get_or marks j false) (get_or graph k []) ≡ has_steps graph (n + 1) k
one_more graph marks n k each low =
    subst (λ m. list_any (λ j. get_or marks j false) (get_or graph k []) ≡ has_steps graph m k) (next n)
    (any_same (λ j. get_or marks j false) (has_steps graph n) (get_or graph k [])
    (λ x h. let c = contains_from_in (get_or graph k []) x h in each x (subst (λ y. y < length graph) c.2 (low c.0 x c.1))))
  where
    next : (n : ℕ) → suc n ≡ n + 1
    next n = omega arith

-- with more steps there are fewer
pub fewer_steps : (graph : List (List ℕ)) (n more k : ℕ) → n ≤ more → has_steps graph more k ≡ true → has_steps graph n k ≡ true
fewer_steps graph zero more k low e = refl
fewer_steps graph (suc n) zero k low e = absurd (omega arith)
fewer_steps graph (suc n) (suc more) k low e = any_weaker (has_steps graph more) (has_steps graph n) (get_or graph k []) (λ x h. fewer_steps graph n more x (omega arith) h) e

-- steps to a model, and those that lead on from it
pub steps_on : (graph : List (List ℕ)) (from : ℕ) (steps : List ℕ) (to n all : ℕ) → led_to graph from steps ≡ Some to → has_steps graph n to ≡ true → all ≡ length steps + n → has_steps graph all from ≡ true
steps_on graph from [] to n all e h is =
    let same : from ≡ to = cc in
    let count : all ≡ n = omega arith in
    subst (λ k. has_steps graph all k ≡ true) (sym same) (subst (λ m. has_steps graph m to ≡ true) (sym count) h)
steps_on graph from (step ∷ earlier) to n all e h is = by (led_to graph from earlier) refl e (λ m found w. steps_on graph from earlier m (suc n) all found w (omega arith))
  where
    by : (o : Option ℕ) → led_to graph from earlier ≡ o → option_and_then (λ k. slice_get (get_or graph k []) step) o ≡ Some to → ((m : ℕ) → led_to graph from earlier ≡ Some m → has_steps graph (suc n) m ≡ true → has_steps graph all from ≡ true) → has_steps graph all from ≡ true
    by None found e again = absurd (cc)
    by (Some m) found e again = again m found (any_of (has_steps graph n) (get_or graph m []) to (in_get (get_or graph m []) step to e) h)

-- where no 65 steps lead on from the top it reaches no circle
pub no_circle : (graph : List (List ℕ)) → has_steps graph 65 0 ≡ false → (m k step : ℕ) → Reaches graph 0 m → slice_get (get_or graph m []) step ≡ Some k → Reaches graph k m → ⊥
no_circle graph short m k step first on back =
    let one : led_to graph m (step ∷ []) ≡ Some k = on in
    let circle = joined graph m k m (step ∷ []) back.0 one back.1 in
    let l = length-append back.0 (step ∷ []) in
    let far = circles graph 0 m first.0 (back.0 ++ step ∷ []) first.1 circle (omega arith) 65 in
    let all = steps_on graph 0 far.0 m 0 (length far.0) far.1 refl (omega arith) in
    let some = fewer_steps graph 65 (length far.0) 0 far.2 all in
    true≢false (sym some ∙ short)
