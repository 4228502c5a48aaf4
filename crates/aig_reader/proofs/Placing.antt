-- The places of numbers in a list, as a map holds them.
use Rattle.std.proofs.Common.{ℕ, zero, suc, ◌+◌, ◌<◌, ◌≤◌, ◌≡◌, refl, ap, sym, ◌∙◌, List, [], ◌∷◌, ◌++◌, length, map, take, get_or, arith, Bool, true, false, not, cond, Option, None, Some, slice_get, unwrap_or}
use Rattle.std.specs.Prelude.{find, if◌then◌else◌, nat_eq, nat_lt, option_and_then, option_map}
use Rattle.std.specs.List.{position, position_from, position_or_len}
use Rattle.std.proofs.lemmas.Iterator.Adapters.{position_from-zero}
use Rattle.std.proofs.lemmas.List.{get_or-take, length-map, length-take}
use Rattle.std.proofs.lemmas.List.Folds.{find_at}
use Rattle.std.proofs.lemmas.Option.{slice_get_past, unwrap_or-slice_get}
use Rattle.aig_model.specs.declared.aig.Symbol.{Symbol}
use Rattle.aig_model.specs.declared.aig.Aig.{Aig}
use Rattle.aig_model.specs.Names.{first_symbol, names, own_variable, variable_name}
use Rattle.aig_model.specs.Sound.{sources}
use Rattle.aig_reader.specs.private.Placed.{with_place}

same_of : (a b : ℕ) → nat_eq a b ≡ true → a ≡ b
same_of a b e = grind arith

keeps : (o : Option ℕ) (k : ℕ) → o ≡ with_place o false k
keeps None k = refl
keeps (Some place) k = refl

put_one : (b : Bool) (place : ℕ → Option ℕ) (number n k : ℕ) → nat_eq number n ≡ b →
    place number ≡ None → (if b then Some k else place n) ≡ with_place (place n) b k
put_one true place number n k e h = let none : place n ≡ None = ap place (sym (same_of number n e))
    ∙ h in rw none refl
put_one false place number n k e h = keeps (place n) k

-- a number that has no place gets one
pub put : (place : ℕ → Option ℕ) (number n k : ℕ) → place number ≡ None →
    (if nat_eq number n then Some k else place n) ≡ with_place (place n) (nat_eq number n) k
put place number n k h = put_one (nat_eq number n) place number n k refl h

kept_one : (b : Bool) (place : ℕ → Option ℕ) (number n k at : ℕ) → nat_eq number n ≡ b →
    place number ≡ Some at → place n ≡ with_place (place n) b k
kept_one true place number n k at e h = let some : place n ≡ Some at = ap place (sym (same_of number
    n e)) ∙ h in rw some refl
kept_one false place number n k at e h = keeps (place n) k

-- a number that has a place keeps it
pub kept : (place : ℕ → Option ℕ) (number n k at : ℕ) → place number ≡ Some at →
    place n ≡ with_place (place n) (nat_eq number n) k
kept place number n k at h = kept_one (nat_eq number n) place number n k at refl h

last_place : (b : Bool) (k m : ℕ) → k ≡ m → cond b (Some k) None ≡ with_place None b m
last_place true k m e = ap Some e
last_place false k m e = refl

more_place : (b c : Bool) (k m : ℕ) (whole front : Option ℕ) → whole ≡ with_place front c m →
    cond b (Some k) whole ≡ with_place (cond b (Some k) front) c m
more_place true c k m whole front e = refl
more_place false c k m whole front e = e

from_pushed : (test : ℕ → Bool) (k m : ℕ) (xs : List ℕ) (x : ℕ) → m ≡ k + length xs →
    position_from test k (xs ++ x ∷ []) ≡ with_place (position_from test k xs) (test x) m
from_pushed test k m [] x e = last_place (test x) k m (omega (arith, e))
from_pushed test k m (y ∷ xs) x e = more_place (test y) (test x) k m _ _ (from_pushed test (k + 1) m
    xs x (omega (arith, e)))

-- the places in a list with a number more
position_pushed : (test : ℕ → Bool) (xs : List ℕ) (x : ℕ) →
    position test (xs ++ x ∷ []) ≡ with_place (position test xs) (test x) (length xs)
position_pushed test xs x =
    position_from-zero test (xs ++ x ∷ [])
    ∙ from_pushed test 0 (length xs) xs x (omega arith)
    ∙ ap (λ o. with_place o (test x) (length xs)) (sym (position_from-zero test xs))

either_way : (a b : ℕ) → nat_eq a b ≡ nat_eq b a
either_way a b = by (nat_eq a b) (nat_eq b a) refl refl
  where
    by : (x y : Bool) → nat_eq a b ≡ x → nat_eq b a ≡ y → x ≡ y
    by true true e f = refl
    by true false e f = absurd (grind (arith, e, f))
    by false true e f = absurd (grind (arith, e, f))
    by false false e f = refl

-- the same, as a map holds them
pub place_pushed : (xs more : List ℕ) (x n k : ℕ) (before after : Option ℕ) → k ≡ length xs →
    more ≡ xs ++ x ∷ [] → before ≡ position (nat_eq n) xs →
    after ≡ with_place before (nat_eq x n) k → after ≡ position (nat_eq n) more
place_pushed xs more x n k before after e m b a =
    a ∙ (λ i. with_place (b i) (either_way x n i) (e i)) ∙ sym (position_pushed (nat_eq n) xs x)
    ∙ ap (position (nat_eq n)) (sym m)

not_below : (a b : ℕ) → nat_lt a b ≡ false → b ≤ a
not_below a b e = grind arith

get_or_past : {X : Type 0} (xs : List X) (k : ℕ) (d : X) → length xs ≤ k → get_or xs k d ≡ d
get_or_past [] k d h = refl
get_or_past (x ∷ xs) zero d h = absurd (omega arith)
get_or_past (x ∷ xs) (suc k) d h = get_or_past xs k d (omega arith)

-- what stands at a first place, and what else
at_place : {X : Type 0} (names : List X) (n p : ℕ) (own : X) (b : Bool) → nat_lt p n ≡ b →
    get_or (take n names) p own ≡ unwrap_or (option_and_then (slice_get names) (cond b (Some p)
    None)) own
at_place names n p own true e = get_or-take n names p own (grind (arith, e))
    ∙ sym (unwrap_or-slice_get names p own)
at_place names n p own false e = get_or_past (take n names) p own (omega (
  arith,
  length-take n
      names,
  not_below p n e,
))

-- the name of a variable, by its place
pub name_placed : (names : List (List ℕ)) (sources : List ℕ) (v : ℕ) (own : List ℕ) (at : Option ℕ)
    → at ≡ position (nat_eq v) sources → get_or (take (length sources) names) (position_or_len
    (nat_eq v) sources) own ≡ unwrap_or (option_and_then (slice_get names) at) own
name_placed names sources v own at e = at_place names (length sources) (position_or_len (nat_eq v)
    sources) own (nat_lt (position_or_len (nat_eq v) sources) (length sources)) refl ∙ ap
    (λ o. unwrap_or (option_and_then (slice_get names) o) own) (sym e)

abbrev has_number : ℕ → Symbol → Bool
has_number n symbol = nat_eq n symbol.number

abbrev numbers : List Symbol → List ℕ
numbers symbols = map (λ (symbol : Symbol). symbol.number) symbols

position_mapped : (n : ℕ) (symbols : List Symbol) →
    position_or_len (nat_eq n) (numbers symbols) ≡ position_or_len (has_number n) symbols
position_mapped n [] = refl
position_mapped n (symbol ∷ symbols) = ap (λ k. cond (not (nat_eq n symbol.number)) (1 + k) 0)
    (position_mapped n symbols)

at_symbol : (symbols : List Symbol) (p : ℕ) (b : Bool) → nat_lt p (length (numbers symbols)) ≡ b →
    option_and_then (slice_get symbols) (cond b (Some p) None) ≡ slice_get symbols p
at_symbol symbols p true e = refl
at_symbol symbols p false e = sym (slice_get_past symbols p (let h = not_below p (length (numbers
    symbols)) e in omega (arith, length-map symbols (λ (symbol : Symbol). symbol.number))))

-- the first symbol with a number, by its place
pub symbol_placed : (symbols : List Symbol) (n : ℕ) (at : Option ℕ) →
    at ≡ position (nat_eq n) (numbers symbols) →
    option_map (λ (symbol : Symbol). symbol.name) (option_and_then (slice_get symbols) at) ≡
    first_symbol n symbols
symbol_placed symbols n at e =
    let p = position_or_len (nat_eq n) (numbers symbols) in
    ap (option_map (λ (symbol : Symbol). symbol.name))
    (ap (option_and_then (slice_get symbols)) e
    ∙ at_symbol symbols p (nat_lt p (length (numbers symbols))) refl
    ∙ ap (slice_get symbols) (position_mapped n symbols) ∙ sym (find_at (has_number n) symbols))

-- the name of a variable, as it is looked up
pub name_found : (aig : Aig) (sources_at : List ℕ) (found : List (List ℕ)) (v : ℕ) (name : Option
    (List ℕ)) → sources_at ≡ sources aig → found ≡ names aig →
    name ≡ option_and_then (slice_get found) (position (nat_eq v) sources_at) →
    variable_name aig v ≡ unwrap_or name (own_variable v)
name_found aig sources_at found v name s f e =
    name_placed (names aig) (sources aig) v (own_variable v) (position (nat_eq v) (sources aig))
    refl
    ∙ ap (λ o. unwrap_or o (own_variable v)) (sym (e ∙
    (λ i. option_and_then (slice_get (f i)) (position (nat_eq v) (s i)))))
