-- Members of lists, and how many different ones there may be.
use Rattle.std.proofs.Common.{◌≡◌, ◌≢◌, zero, suc, ◌≤◌, Bool, true, false, List, [], ◌∷◌, ◌++◌, length, map, get_or, ◌⊎◌, inl, inr, ⊎_elim, refl, sym, ◌∙◌, ap, subst, arith, cond, Contains, Decides}
use Rattle.std.specs.Cmp.{decided}
use Rattle.std.specs.List.{AllPairs, filter}
use Rattle.std.specs.Set.{unique_keys, is_member}
use Rattle.std.proofs.lemmas.List.Elements.{Contains-get_or, Contains-append_cases}
use Rattle.std.proofs.lemmas.List.Kept.{AllPairs-cons}
use Rattle.std.proofs.lemmas.Map.Made.{length-le_from_is_member, is_member-Decides, IsDistinct-from_AllPairs}

pub Contains-head : {X : Type 0} (x : X) (xs : List X) → Contains (x ∷ xs) x
Contains-head x xs = (zero, omega arith, refl)

pub Contains-tail : {X : Type 0} (y : X) (xs : List X) (x : X) → Contains xs x → Contains (y ∷ xs) x
Contains-tail y xs x (k, lt, e) = (suc k, omega arith, e)

pub Contains-cons_cases : {X : Type 0} (y : X) (xs : List X) (x : X) → Contains (y ∷ xs) x → (y ≡ x) ⊎ Contains xs x
Contains-cons_cases y xs x (zero, lt, e) = inl e
Contains-cons_cases y xs x (suc k, lt, e) = inr (k, omega arith, e)

pub Contains-none : {X : Type 0} (x : X) → Contains [] x → ⊥
Contains-none x (k, lt, e) = absurd (omega arith)

pub Contains-map : {X Y : Type 0} (f : X → Y) (xs : List X) (x : X) → Contains xs x → Contains (map f xs) (f x)
Contains-map f [] x has = absurd (Contains-none x has)
Contains-map f (y ∷ ys) x (zero, lt, e) = (zero, omega arith, ap f e)
Contains-map f (y ∷ ys) x (suc k, lt, e) = Contains-tail (f y) (map f ys) (f x) (Contains-map f ys x (k, omega arith, e))

-- a member of an image is the image of a member
pub Contains-map_of : {X Y : Type 0} (f : X → Y) (xs : List X) (y : Y) → Contains (map f xs) y → (x : X) × Contains xs x × (f x ≡ y)
Contains-map_of f [] y has = absurd (Contains-none y has)
Contains-map_of f (x ∷ xs) y (zero, lt, e) = (x, Contains-head x xs, e)
Contains-map_of f (x ∷ xs) y (suc k, lt, e) = let (z, has, is) = Contains-map_of f xs y (k, omega arith, e) in (z, Contains-tail x xs z has, is)

filter_by : {X : Type 0} (p : X → Bool) (y : X) (ys : List X) (x : X) (test : Bool) → p y ≡ test → p x ≡ true → (y ≡ x) ⊎ Contains (filter p ys) x
    → Contains (cond test (y ∷ filter p ys) (filter p ys)) x
filter_by p y ys x true t pass (inl e) = (zero, omega arith, e)
filter_by p y ys x false t pass (inl e) = absurd (let f : false ≡ true = sym t ∙ ap p e ∙ pass in cc)
filter_by p y ys x true t pass (inr has) = Contains-tail y (filter p ys) x has
filter_by p y ys x false t pass (inr has) = has

pub Contains-filter : {X : Type 0} (p : X → Bool) (xs : List X) (x : X) → Contains xs x → p x ≡ true → Contains (filter p xs) x
Contains-filter p [] x has pass = absurd (Contains-none x has)
Contains-filter p (y ∷ ys) x has pass = filter_by p y ys x (p y) refl pass (⊎_elim (λ e. inl e) (λ later. inr (Contains-filter p ys x later pass)) (Contains-cons_cases y ys x has))

filter_of_by : {X : Type 0} (p : X → Bool) (y : X) (ys : List X) (x : X) (test : Bool) → p y ≡ test → Contains (cond test (y ∷ filter p ys) (filter p ys)) x
    → (Contains (filter p ys) x → Contains ys x × (p x ≡ true)) → Contains (y ∷ ys) x × (p x ≡ true)
filter_of_by p y ys x true t has again = ⊎_elim
    (λ (e : y ≡ x). (subst (λ z. Contains (y ∷ ys) z) e (Contains-head y ys), ap p (sym e) ∙ t))
    (λ (later : Contains (filter p ys) x). (Contains-tail y ys x (again later).0, (again later).1))
    (Contains-cons_cases y (filter p ys) x has)
filter_of_by p y ys x false t has again = (Contains-tail y ys x (again has).0, (again has).1)

pub Contains-filter_of : {X : Type 0} (p : X → Bool) (xs : List X) (x : X) → Contains (filter p xs) x → Contains xs x × (p x ≡ true)
Contains-filter_of p [] x has = absurd (Contains-none x has)
Contains-filter_of p (y ∷ ys) x has = filter_of_by p y ys x (p y) refl has (Contains-filter_of p ys x)

unique_by : {K : Type 0} {eq : K → K → Bool} (same : (a b : K) → Decides (eq a b) (a ≡ b)) (y : K) (ys : List K) (x : K) (test : Bool) → is_member eq ys y ≡ test
    → (y ≡ x) ⊎ Contains (unique_keys eq ys) x → (Contains ys x → Contains (unique_keys eq ys) x) → Contains (cond test (unique_keys eq ys) (y ∷ unique_keys eq ys)) x
unique_by {eq = eq} same y ys x true t (inl e) again = again ((is_member-Decides same ys x).0 (ap (is_member eq ys) (sym e) ∙ t))
unique_by {eq = eq} same y ys x false t (inl e) again = (zero, omega arith, e)
unique_by {eq = eq} same y ys x true t (inr has) again = has
unique_by {eq = eq} same y ys x false t (inr has) again = Contains-tail y (unique_keys eq ys) x has

pub Contains-unique : {K : Type 0} {eq : K → K → Bool} (same : (a b : K) → Decides (eq a b) (a ≡ b)) (xs : List K) (x : K) → Contains xs x → Contains (unique_keys eq xs) x
Contains-unique same [] x has = absurd (Contains-none x has)
Contains-unique same (y ∷ ys) x has = unique_by same y ys x _ refl (⊎_elim (λ e. inl e) (λ later. inr (Contains-unique same ys x later)) (Contains-cons_cases y ys x has)) (Contains-unique same ys x)

unique_of_by : {K : Type 0} (eq : K → K → Bool) (y : K) (ys : List K) (x : K) (test : Bool) → Contains (cond test (unique_keys eq ys) (y ∷ unique_keys eq ys)) x
    → (Contains (unique_keys eq ys) x → Contains ys x) → Contains (y ∷ ys) x
unique_of_by eq y ys x true has again = Contains-tail y ys x (again has)
unique_of_by eq y ys x false has again = ⊎_elim
    (λ (e : y ≡ x). subst (λ z. Contains (y ∷ ys) z) e (Contains-head y ys))
    (λ (later : Contains (unique_keys eq ys) x). Contains-tail y ys x (again later))
    (Contains-cons_cases y (unique_keys eq ys) x has)

pub Contains-unique_of : {K : Type 0} (eq : K → K → Bool) (xs : List K) (x : K) → Contains (unique_keys eq xs) x → Contains xs x
Contains-unique_of eq [] x has = has
Contains-unique_of eq (y ∷ ys) x has = unique_of_by eq y ys x (is_member eq ys y) has (Contains-unique_of eq ys x)

pub apart-cons : {X : Type 0} (x : X) (xs : List X) → ((y : X) → Contains xs y → x ≢ y) → AllPairs (λ a b. a ≢ b) xs → AllPairs (λ a b. a ≢ b) (x ∷ xs)
apart-cons x xs differ apart = AllPairs-cons (λ a b. a ≢ b) x xs (λ k d lt. differ (get_or xs k d) (Contains-get_or xs k d lt)) apart

apart-head : {X : Type 0} (x : X) (xs : List X) (y : X) → AllPairs (λ a b. a ≢ b) (x ∷ xs) → Contains xs y → x ≢ y
apart-head x xs y h (k, lt, at) e = h zero (suc k) y (omega arith) (omega arith) (e ∙ sym at)

apart-tail : {X : Type 0} (x : X) (xs : List X) → AllPairs (λ a b. a ≢ b) (x ∷ xs) → AllPairs (λ a b. a ≢ b) xs
apart-tail x xs h i j d lt inside = h (suc i) (suc j) d (omega arith) (omega arith)

pub apart-append : {X : Type 0} (xs ys : List X) → AllPairs (λ a b. a ≢ b) xs → AllPairs (λ a b. a ≢ b) ys → ((x : X) → Contains xs x → Contains ys x → ⊥)
    → AllPairs (λ a b. a ≢ b) (xs ++ ys)
apart-append [] ys h k differ = k
apart-append (x ∷ xs) ys h k differ = apart-cons x (xs ++ ys)
    (λ y has. ⊎_elim (λ (left : Contains xs y). apart-head x xs y h left)
    (λ (right : Contains ys y). λ (e : x ≡ y). differ y (subst (λ z. Contains (x ∷ xs) z) e (Contains-head x xs)) right)
    (Contains-append_cases xs ys y has))
    (apart-append xs ys (apart-tail x xs h) k (λ z left right. differ z (Contains-tail x xs z left) right))

apart_by : {K : Type 0} {eq : K → K → Bool} (same : (a b : K) → Decides (eq a b) (a ≡ b)) (y : K) (ys : List K) (test : Bool) → is_member eq ys y ≡ test
    → AllPairs (λ a b. a ≢ b) (unique_keys eq ys) → AllPairs (λ a b. a ≢ b) (cond test (unique_keys eq ys) (y ∷ unique_keys eq ys))
apart_by same y ys true t again = again
apart_by {eq = eq} same y ys false t again = AllPairs-cons (λ a b. a ≢ b) y (unique_keys eq ys)
    (λ k d lt e.
    let has : Contains ys (get_or (unique_keys eq ys) k d) = Contains-unique_of eq ys (get_or (unique_keys eq ys) k d) (Contains-get_or (unique_keys eq ys) k d lt) in
    let pass : is_member eq ys y ≡ true = (is_member-Decides same ys y).1 (subst (λ z. Contains ys z) (sym e) has) in
    let f : false ≡ true = sym t ∙ pass in cc)
    again

pub unique-apart : {K : Type 0} {eq : K → K → Bool} (same : (a b : K) → Decides (eq a b) (a ≡ b)) (xs : List K) → AllPairs (λ a b. a ≢ b) (unique_keys eq xs)
unique-apart same [] = λ i j d lt inside. absurd (omega arith)
unique-apart {eq = eq} same (y ∷ ys) = apart_by same y ys (is_member eq ys y) refl (unique-apart same ys)

-- different members of a list are no more than its different members
pub count_different : {K : Type 0} {eq : K → K → Bool} (same : (a b : K) → Decides (eq a b) (a ≡ b)) (xs ys : List K) → AllPairs (λ a b. a ≢ b) xs
    → ((x : K) → Contains xs x → Contains ys x) → length xs ≤ length (unique_keys eq ys)
count_different {eq = eq} same xs ys apart within = length-le_from_is_member (decided eq same) xs (unique_keys eq ys) (IsDistinct-from_AllPairs same xs apart)
    (λ x m. (is_member-Decides same (unique_keys eq ys) x).1 (Contains-unique same ys x (within x ((is_member-Decides same xs x).0 m))))
