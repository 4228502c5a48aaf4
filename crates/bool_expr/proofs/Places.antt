-- The numbers of the declared variables.
use Rattle.std.proofs.Common.{ℕ, suc, ◌+◌, ◌<◌, ◌≡◌, refl, sym, ap, ◌∙◌, List, [], ◌∷◌, ◌++◌, length, arith, Bool, true, false, Option, None, Some}
use Rattle.std.specs.Prelude.{bytes_eq, if◌then◌else◌, is_some, IfSome, ◌||◌}
use Rattle.std.specs.List.{list_any}
use Rattle.std.proofs.lemmas.Slice.Eq.{bytes_eq-Decides}
use Rattle.bool_expr.specs.Read.{place_from, number_in}
use Rattle.bool_expr.specs.private.Held.{with_place}

keeps : (o : Option ℕ) (n : ℕ) → o ≡ with_place o false n
keeps None n = refl
keeps (Some place) n = refl

put_one : (b : Bool) (number : List ℕ → Option ℕ) (name word : List ℕ) (n : ℕ) → bytes_eq name word ≡ b → number name ≡ None → (if b then Some n else number word) ≡ with_place (number word) b n
put_one true number name word n e h =
    let none : number word ≡ None = ap number (sym ((bytes_eq-Decides name word).0 e)) ∙ h in
    rw none refl
put_one false number name word n e h = keeps (number word) n

-- a name that has no number gets one
pub put : (number : List ℕ → Option ℕ) (name word : List ℕ) (n : ℕ) → number name ≡ None → (if bytes_eq name word then Some n else number word) ≡ with_place (number word) (bytes_eq name word) n
put number name word n h = put_one (bytes_eq name word) number name word n refl h

kept_one : (b : Bool) (number : List ℕ → Option ℕ) (name word : List ℕ) (n place : ℕ) → bytes_eq name word ≡ b → number name ≡ Some place → number word ≡ with_place (number word) b n
kept_one true number name word n place e h =
    let some : number word ≡ Some place = ap number (sym ((bytes_eq-Decides name word).0 e)) ∙ h in
    rw some refl
kept_one false number name word n place e h = keeps (number word) n

-- a name that has a number keeps it
pub kept : (number : List ℕ → Option ℕ) (name word : List ℕ) (n place : ℕ) → number name ≡ Some place → number word ≡ with_place (number word) (bytes_eq name word) n
kept number name word n place h = kept_one (bytes_eq name word) number name word n place refl h

last_one : (b : Bool) (n m : ℕ) → n ≡ m → (if b then Some n else None) ≡ with_place None b m
last_one true n m e = ap (λ k. Some k) e
last_one false n m e = refl

more_one : (b c : Bool) (n m : ℕ) (whole front : Option ℕ) → whole ≡ with_place front c m → (if b then Some n else whole) ≡ with_place (if b then Some n else front) c m
more_one true c n m whole front e = refl
more_one false c n m whole front e = e

-- the numbers in one more variable
last_number : (n m : ℕ) (vars : List (List ℕ)) (name word : List ℕ) → m ≡ n + length vars → place_from n (vars ++ name ∷ []) word ≡ with_place (place_from n vars word) (bytes_eq name word) m
last_number n m [] name word e = last_one (bytes_eq name word) n m (omega (arith, e))
last_number n m (var ∷ vars) name word e =
    more_one (bytes_eq var word) (bytes_eq name word) n m _ _ (last_number (suc n) m vars name word (omega (arith, e)))

-- the numbers with one more variable
pub number_pushed : (names new : List (List ℕ)) (i : ℕ) (name copy word : List ℕ) (before after : Option ℕ) → i ≡ length names → copy ≡ name → new ≡ names ++ copy ∷ [] → before ≡ number_in names word → after ≡ with_place before (bytes_eq name word) i → after ≡ number_in new word
number_pushed names new i name copy word before after e c n b a =
    let more : new ≡ names ++ name ∷ [] = n ∙ ap (λ w. names ++ w ∷ []) c in
    rw more (a ∙ ap (λ o. with_place o (bytes_eq name word) i) b ∙ sym (last_number 0 i names name word (omega (arith, e))))

same_bits : (a b : Bool) → (a ≡ true → b ≡ true) → (b ≡ true → a ≡ true) → a ≡ b
same_bits true b there back = sym (there refl)
same_bits false true there back = back refl
same_bits false false there back = refl

eq_either_way : (one other : List ℕ) → bytes_eq one other ≡ bytes_eq other one
eq_either_way one other = same_bits (bytes_eq one other) (bytes_eq other one) (λ e. (bytes_eq-Decides other one).1 (sym ((bytes_eq-Decides one other).0 e))) (λ e. (bytes_eq-Decides one other).1 (sym ((bytes_eq-Decides other one).0 e)))

found_one : (b c : Bool) (number : Option ℕ) (n : ℕ) (any : Bool) → b ≡ c → is_some number ≡ any → is_some (if b then Some n else number) ≡ (c || any)
found_one true c number n any e h = rw (sym e) refl
found_one false c number n any e h = rw (sym e) h

-- a word has a number just where it is one of the names
pub has_number : (n : ℕ) (names : List (List ℕ)) (word : List ℕ) → is_some (place_from n names word) ≡ list_any (bytes_eq word) names
has_number n [] word = refl
has_number n (name ∷ names) word = found_one (bytes_eq name word) (bytes_eq word name) (place_from (suc n) names word) n (list_any (bytes_eq word) names) (eq_either_way name word) (has_number (suc n) names word)

found_within : (b : Bool) (n m most : ℕ) (later : Option ℕ) → n < most → ((k : ℕ) → later ≡ Some k → k < most) → (if b then Some n else later) ≡ Some m → m < most
found_within true n m most later h rest e = let same : n ≡ m = cc in omega (arith, same, h)
found_within false n m most later h rest e = rest m e

-- a number is below the number of names
pub within_names : (n : ℕ) (names : List (List ℕ)) (word : List ℕ) (m : ℕ) → place_from n names word ≡ Some m → m < n + length names
within_names n [] word m e = absurd (cc e)
within_names n (name ∷ names) word m e =
    found_within (bytes_eq name word) n m (n + length (name ∷ names)) (place_from (suc n) names word) (omega arith) (λ k f. let h = within_names (suc n) names word k f in omega (arith, h)) e

pub if_within : (vars : List (List ℕ)) (word : List ℕ) (found : Option ℕ) → found ≡ number_in vars word → IfSome found (λ place. place < length vars)
if_within vars word None e = tt
if_within vars word (Some m) e = let h = within_names 0 vars word m (sym e) in omega (arith, h)
