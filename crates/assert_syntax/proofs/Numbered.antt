-- The numbers of vertices, which are their places in the order of first mention.
use Rattle.std.proofs.Common.{ℕ, ◌+◌, ◌≡◌, refl, sym, ap, subst, ◌∙◌, List, [], ◌∷◌, ◌++◌, length, get_or, arith, Bool, true, false, if◌then◌else◌, None, Some, nat_lt, bytes_eq, ◌≤◌}
use Rattle.std.specs.Prelude.{cond, unwrap_or}
use Rattle.std.specs.List.{Contains, list_any, position, position_or_len}
use Rattle.std.proofs.lemmas.Bool.{eqb-true}
use Rattle.std.proofs.lemmas.List.Elements.{Contains-append_left, Contains-append_right}
use Rattle.std.proofs.lemmas.List.Folds.{position_or_len_push}
use Rattle.std.proofs.lemmas.List.Sums.{fails_before_first, prefix_len-le-length}
use Rattle.std.proofs.Math.Dec.{eqb}
use Rattle.std.proofs.lemmas.Slice.Eq.{bytes_eq-Decides}
use Rattle.indexmap.specs.IndexSet.{insert_all, insert_key}
use Rattle.assert_syntax.specs.Spelled.{vertex_number}
use Rattle.assert_syntax.proofs.Named.{stands_in}

-- the place of the first that passes, or the length
place_by : (b : Bool) (n len : ℕ) → nat_lt n len ≡ b → n ≤ len → unwrap_or (cond b (Some n) None) len ≡ n
place_by true n len e h = refl
place_by false n len e h = let k : len ≤ n = grind (arith, e) in omega (arith, h, k)

pub place_is : {A : Type 0} (p : A → Bool) (xs : List A) → unwrap_or (position p xs) (length xs) ≡ position_or_len p xs
place_is p xs = place_by (nat_lt (position_or_len p xs) (length xs)) (position_or_len p xs) (length xs) refl (prefix_len-le-length _ xs)

-- a vertex keeps its number
number_below : (vertices : List (List ℕ)) (word : List ℕ) → Contains vertices word → position_or_len (bytes_eq word) vertices ≡ length vertices → ⊥
number_below vertices word (k, h, e) all =
    let fails = fails_before_first (bytes_eq word) vertices k word (omega (arith, h, all)) in
    let finds = (bytes_eq-Decides word (get_or vertices k word)).1 (sym e) in
    let clash = sym fails ∙ finds in absurd (cc clash)

push_by : (b : Bool) (n len : ℕ) (more : ℕ) → eqb n len ≡ b → (n ≡ len → ⊥) → cond b more n ≡ n
push_by true n len more e apart = absurd (apart (eqb-true n len e))
push_by false n len more e apart = refl

insert_by : (b : Bool) (vertices : List (List ℕ)) (x word : List ℕ) → Contains vertices word → vertex_number (if b then vertices else vertices ++ x ∷ []) word ≡ vertex_number vertices word
insert_by true vertices x word c = refl
insert_by false vertices x word c =
    place_is (bytes_eq word) (vertices ++ x ∷ []) ∙ position_or_len_push (bytes_eq word) vertices x
    ∙ push_by (eqb (position_or_len (bytes_eq word) vertices) (length vertices)) (position_or_len (bytes_eq word) vertices) (length vertices) _ refl (number_below vertices word c)
    ∙ sym (place_is (bytes_eq word) vertices)

contains_by : (b : Bool) (vertices : List (List ℕ)) (x word : List ℕ) → Contains vertices word → Contains (if b then vertices else vertices ++ x ∷ []) word
contains_by true vertices x word c = c
contains_by false vertices x word c = Contains-append_left vertices (x ∷ []) word c

pub number_stays : (vertices xs : List (List ℕ)) (word : List ℕ) → Contains vertices word → vertex_number (insert_all bytes_eq vertices xs) word ≡ vertex_number vertices word
number_stays vertices [] word c = refl
number_stays vertices (x ∷ xs) word c =
    number_stays (insert_key bytes_eq vertices x) xs word (contains_by (list_any (bytes_eq x) vertices) vertices x word c) ∙ insert_by (list_any (bytes_eq x) vertices) vertices x word c

pub stays_in : (vertices xs : List (List ℕ)) (word : List ℕ) → Contains vertices word → Contains (insert_all bytes_eq vertices xs) word
stays_in vertices [] word c = c
stays_in vertices (x ∷ xs) word c = stays_in (insert_key bytes_eq vertices x) xs word (contains_by (list_any (bytes_eq x) vertices) vertices x word c)

inserted_by : (b : Bool) (vertices : List (List ℕ)) (x : List ℕ) → list_any (bytes_eq x) vertices ≡ b → Contains (if b then vertices else vertices ++ x ∷ []) x
inserted_by true vertices x e = stands_in vertices x e
inserted_by false vertices x e = Contains-append_right vertices (x ∷ []) x (0, omega arith, refl)

pub inserted : (vertices : List (List ℕ)) (x : List ℕ) → Contains (insert_key bytes_eq vertices x) x
inserted vertices x = inserted_by (list_any (bytes_eq x) vertices) vertices x refl

-- the place that a vertex gets as it is mentioned is its number
first_by : (b : Bool) (n len : ℕ) (last : Bool) → eqb n len ≡ b → last ≡ true → cond b (len + cond last 0 1) n ≡ n
first_by true n len last e same = ap (λ k. len + cond k 0 1) same ∙ (let m = eqb-true n len e in omega (arith, m))
first_by false n len last e same = refl

number_by : (b : Bool) (vertices : List (List ℕ)) (word : List ℕ) → vertex_number (if b then vertices else vertices ++ word ∷ []) word ≡ position_or_len (bytes_eq word) vertices
number_by true vertices word = place_is (bytes_eq word) vertices
number_by false vertices word =
    place_is (bytes_eq word) (vertices ++ word ∷ []) ∙ position_or_len_push (bytes_eq word) vertices word
    ∙ first_by (eqb (position_or_len (bytes_eq word) vertices) (length vertices)) (position_or_len (bytes_eq word) vertices) (length vertices) (bytes_eq word word) refl ((bytes_eq-Decides word word).1 refl)

-- the numbers of the two ends of an edge, by the places that they get
pub ends_are : (old one new : List (List ℕ)) (from to : List ℕ) (a b : ℕ) → a ≡ position_or_len (bytes_eq from) old → one ≡ insert_key bytes_eq old from → b ≡ position_or_len (bytes_eq to) one → new ≡ insert_key bytes_eq one to → (a ≡ vertex_number new from) × (b ≡ vertex_number new to)
ends_are old one new from to a b x k y n =
    let held : Contains one from = subst (λ vs. Contains vs from) (sym k) (inserted old from) in
    let first : vertex_number one from ≡ a = ap (λ vs. vertex_number vs from) k ∙ number_by (list_any (bytes_eq from) old) old from ∙ sym x in
    let second : vertex_number new to ≡ b = ap (λ vs. vertex_number vs to) n ∙ number_by (list_any (bytes_eq to) one) one to ∙ sym y in
    let stays : vertex_number new from ≡ vertex_number one from = ap (λ vs. vertex_number vs from) n ∙ number_stays one (to ∷ []) from held in
    (sym (stays ∙ first), sym second)
