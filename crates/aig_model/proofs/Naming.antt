-- Different things have different names.
use Rattle.std.proofs.Common.{◌≡◌, ℕ, zero, suc, ◌+◌, ◌<◌, ◌≤◌, ◌^◌, Bool, true, false, List, [], ◌∷◌, ◌++◌, map, length, get_or, drop, Option, None, Some, slice_get, refl, sym, ap, arith, subst, inl, inr, ◌∙◌}
use Rattle.std.proofs.Common.{append_assoc, length-append}
use Rattle.std.proofs.Math.ListN.{get_or-append}
use Rattle.std.specs.Prelude.{◌⊎◌, ◌||◌, bytes_eq, if◌then◌else◌, nat_eq, nat_lt, unwrap_or, option_to_list}
use Rattle.std.specs.Fmt.{decimal}
use Rattle.std.specs.List.{list_any, position_or_len, zip}
use Rattle.std.proofs.lemmas.Fmt.{decimal_injective}
use Rattle.std.proofs.lemmas.List.{get_or-append-add, get_or-drop, get_or-map, get_or-take, get_or_default, length-drop, length-map, length-take}
use Rattle.std.proofs.lemmas.List.Sums.{passes_at_first}
use Rattle.std.proofs.lemmas.Option.{get_or_from_slice_get, slice_get_within}
use Rattle.std.proofs.lemmas.Slice.Eq.{bytes_eq-Decides}
use Rattle.std.proofs.lemmas.Slice.Zip.{get_or-zip, length-zip}
use Rattle.hierarchy.proofs.Members.{In, append_cases, in_at, map_in}
use Rattle.aig_model.specs.declared.aig.Aig.{Aig}
use Rattle.aig_model.specs.declared.aig.AigLatch.{AigLatch}
use Rattle.aig_model.specs.declared.aig.AigOutput.{AigOutput}
use Rattle.aig_model.specs.declared.aig.Symbol.{Symbol}
use Rattle.aig_model.specs.Names.{Label, is_own, labels, labels_from, names, label_names, output_names, own_opposite, own_output, own_outputs, own_variable, usable_symbol, source_names, variable_name}
use Rattle.aig_model.specs.Sound.{sources}

-- what is known of a name and the own name: they are the same, or it is a symbol that was
-- not taken
abbrev pub IsFresh : List (List ℕ) → List ℕ → List ℕ → Type 0
IsFresh taken own name = (name ≡ own) ⊎ ((is_own name ≡ false) × (list_any (bytes_eq name) taken ≡
    false))

any_left : (p : List ℕ → Bool) (xs ys : List (List ℕ)) → list_any p (xs ++ ys) ≡ false →
    list_any p xs ≡ false
any_left p [] ys e = refl
any_left p (x ∷ xs) ys e = step (p x) (any_left p xs ys) e
  where
    step : (b : Bool) → (list_any p (xs ++ ys) ≡ false → list_any p xs ≡ false) →
        (b || list_any p (xs ++ ys)) ≡ false → (b || list_any p xs) ≡ false
    step true later i = i
    step false later i = later i

any_right : (p : List ℕ → Bool) (xs ys : List (List ℕ)) → list_any p (xs ++ ys) ≡ false →
    list_any p ys ≡ false
any_right p [] ys e = e
any_right p (x ∷ xs) ys e = step (p x) (any_right p xs ys) e
  where
    step : (b : Bool) → (list_any p (xs ++ ys) ≡ false → list_any p ys ≡ false) →
        (b || list_any p (xs ++ ys)) ≡ false → list_any p ys ≡ false
    step true later i = absurd (cc i)
    step false later i = later i

-- the name of a thing is fresh
served_fresh : (taken : List (List ℕ)) (symbol : Option (List ℕ)) (own : List ℕ) →
    IsFresh taken own (unwrap_or (usable_symbol taken symbol) own)
served_fresh taken None own = inl refl
served_fresh taken (Some name) own = step (is_own name) (list_any (bytes_eq name) taken) refl refl
  where
    step : (a b : Bool) → is_own name ≡ a → list_any (bytes_eq name) taken ≡ b →
        IsFresh taken own (unwrap_or (if a || b then None else Some name) own)
    step true b e f = inl refl
    step false true e f = inl refl
    step false false e f = inr (e, f)

-- the names of things with the names of their own
abbrev pub owned : List (List ℕ) → List Label → List (List ℕ × List ℕ)
owned taken labels = zip (map (λ (label : Label). label.own) labels) (label_names taken labels)

fresh_before : (taken more : List (List ℕ)) (own name : List ℕ) → IsFresh (taken ++ more) own name →
    IsFresh taken own name
fresh_before taken more own name (inl e) = inl e
fresh_before taken more own name (inr f) = inr (f.0, any_left (bytes_eq name) taken more f.1)

pub all_fresh : (taken : List (List ℕ)) (labels : List Label) (at : List ℕ × List ℕ) →
    In (owned taken labels) at → IsFresh taken at.0 at.1
all_fresh taken [] at h = absurd h
all_fresh taken (label ∷ labels) at (inl e) = subst
    (λ (p : List ℕ × List ℕ). IsFresh taken p.0 p.1) e (served_fresh taken label.symbol label.own)
all_fresh taken (label ∷ labels) at (inr h) = fresh_before taken (option_to_list (usable_symbol taken
    label.symbol)) at.0 at.1 (all_fresh (taken ++ option_to_list (usable_symbol taken label.symbol)) labels
    at h)

-- all names of their own begin with `$`
abbrev pub AreOwn : List Label → Type 0
AreOwn [] = Unit {0}
AreOwn (label ∷ labels) = (is_own label.own ≡ true) × AreOwn labels

own_of : (taken : List (List ℕ)) (labels : List Label) (at : List ℕ × List ℕ) → AreOwn labels →
    In (owned taken labels) at → is_own at.0 ≡ true
own_of taken [] at o h = absurd h
own_of taken (label ∷ labels) at o (inl e) = ap (λ (p : List ℕ × List ℕ). is_own p.0) (sym e) ∙ o.0
own_of taken (label ∷ labels) at o (inr h) = own_of (taken ++ option_to_list (usable_symbol taken
    label.symbol)) labels at o.1 h

not_among : (taken : List (List ℕ)) (name : List ℕ) →
    list_any (bytes_eq name) (taken ++ name ∷ []) ≡ false → ⊥
not_among taken name e = by (bytes_eq name name) refl (any_right (bytes_eq name) taken (name ∷ [])
    e)
  where
    by : (b : Bool) → bytes_eq name name ≡ b → (b || false) ≡ false → ⊥
    by true i f = cc f
    by false i f = cc (i, (bytes_eq-Decides name name).1 refl)

served_plain : (taken : List (List ℕ)) (symbol : Option (List ℕ)) (x : List ℕ) →
    usable_symbol taken symbol ≡ Some x → is_own x ≡ false
served_plain taken None x e = absurd (cc e)
served_plain taken (Some name) x e = step (is_own name) (list_any (bytes_eq name) taken) refl e
  where
    step : (a b : Bool) → is_own name ≡ a → (if a || b then None else Some name) ≡ Some x →
        is_own x ≡ false
    step true b i f = absurd (cc f)
    step false true i f = absurd (cc f)
    step false false i f = let same : name ≡ x = cc f in ap is_own (sym same) ∙ i

-- the first thing, and a later one of the same name
first_later : (taken : List (List ℕ)) (symbol : Option (List ℕ)) (own other name : List ℕ) →
    is_own own ≡ true → is_own other ≡ true → IsFresh (taken ++ option_to_list (usable_symbol taken
    symbol)) other name → unwrap_or (usable_symbol taken symbol) own ≡ name → own ≡ other
first_later taken symbol own other name o p f e = step (usable_symbol taken symbol) refl f e
  where
    step : (s : Option (List ℕ)) → usable_symbol taken symbol ≡ s →
        IsFresh (taken ++ option_to_list s) other name → unwrap_or s own ≡ name → own ≡ other
    step None k (inl i) j = j ∙ i
    step None k (inr g) j = absurd (cc (o, g.0, j))
    step (Some x) k (inl i) j = absurd (cc (served_plain taken symbol x k, p, j, i))
    step (Some x) k (inr g) j = absurd (not_among taken name (subst
        (λ y. list_any (bytes_eq name) (taken ++ y ∷ []) ≡ false) j g.1))

-- things of the same name have the same name of their own
pub same_own : (taken : List (List ℕ)) (labels : List Label) (one other : List ℕ × List ℕ) →
    AreOwn labels → In (owned taken labels) one → In (owned taken labels) other → one.1 ≡ other.1 →
    one.0 ≡ other.0
same_own taken [] one other o h g e = absurd h
same_own taken (label ∷ labels) one other o (inl i) (inl j) e = ap (λ p. p.0) (sym i ∙ j)
same_own taken (label ∷ labels) one other o (inl i) (inr g) e =
    sym (ap (λ (p : List ℕ × List ℕ). p.0) i)
    ∙ first_later taken label.symbol label.own other.0 other.1 o.0 (own_of _ labels other o.1 g)
    (all_fresh _ labels other g) (ap (λ (p : List ℕ × List ℕ). p.1) i ∙ e)
same_own taken (label ∷ labels) one other o (inr h) (inl j) e =
    sym (first_later taken label.symbol label.own one.0 one.1 o.0 (own_of _ labels one o.1 h)
    (all_fresh _ labels one h) (ap (λ (p : List ℕ × List ℕ). p.1) j ∙ sym e))
    ∙ ap (λ (p : List ℕ × List ℕ). p.0) j
same_own taken (label ∷ labels) one other o (inr h) (inr g) e = same_own (taken ++ option_to_list
    (usable_symbol taken label.symbol)) labels one other o.1 h g e

-- the names of their own, of all that may have a symbol
abbrev pub owns : Aig → List (List ℕ)
owns aig = map own_variable (sources aig) ++ own_outputs 0 aig.outputs

owns_from : (symbols : List Symbol) (n : ℕ) (own : List (List ℕ)) →
    map (λ (label : Label). label.own) (labels_from symbols n own) ≡ own
owns_from symbols n [] = refl
owns_from symbols n (x ∷ own) = ap (λ ys. x ∷ ys) (owns_from symbols (suc n) own)

map_append : {X Y : Type 0} (f : X → Y) (xs ys : List X) → map f (xs ++ ys) ≡ map f xs ++ map f ys
map_append f [] ys = refl
map_append f (x ∷ xs) ys = ap (λ zs. f x ∷ zs) (map_append f xs ys)

pub map_twice : (latches : List AigLatch) → map own_variable (map
    (λ (l : AigLatch). l.var) latches) ≡ map (λ (l : AigLatch). own_variable l.var) latches
map_twice [] = refl
map_twice (l ∷ latches) = ap (λ zs. own_variable l.var ∷ zs) (map_twice latches)

pub owns_are : (aig : Aig) → map (λ (label : Label). label.own) (labels aig) ≡ owns aig
owns_are aig =
    let own = λ (label : Label). label.own in
    let first = labels_from aig.input_symbols 0 (map own_variable aig.inputs) in
    let second = labels_from aig.latch_symbols 0 (map
    (λ (l : AigLatch). own_variable l.var) aig.latches) in
    let third = labels_from aig.output_symbols 0 (own_outputs 0 aig.outputs) in
    map_append own first (second ++ third)
    ∙ ap (λ ys. map own first ++ ys) (map_append own second third)
    ∙ (λ i. owns_from aig.input_symbols 0 (map own_variable aig.inputs) i
    ++ (owns_from aig.latch_symbols 0 (map (λ (l : AigLatch). own_variable l.var) aig.latches) i
    ++ owns_from aig.output_symbols 0 (own_outputs 0 aig.outputs) i))
    ∙ ap (λ ys. map own_variable aig.inputs ++ (ys ++ own_outputs 0 aig.outputs)) (sym (map_twice
    aig.latches))
    ∙ sym (append_assoc (map own_variable aig.inputs) (map own_variable (map
    (λ (l : AigLatch). l.var) aig.latches)) (own_outputs 0 aig.outputs))
    ∙ ap (λ ys. ys ++ own_outputs 0 aig.outputs) (sym (map_append own_variable aig.inputs (map
    (λ (l : AigLatch). l.var) aig.latches)))

-- names that begin with `$`
abbrev AreAllOwn : List (List ℕ) → Type 0
AreAllOwn names = (name : List ℕ) → In names name → is_own name ≡ true

from_owns : (labels : List Label) → AreAllOwn (map (λ (label : Label). label.own) labels) →
    AreOwn labels
from_owns [] o = tt
from_owns (label ∷ labels) o = (o label.own (inl refl), from_owns labels (λ name h. o name (inr h)))

outputs_own : (k : ℕ) (outputs : List AigOutput) (name : List ℕ) → In (own_outputs k outputs) name →
    is_own name ≡ true
outputs_own k [] name h = absurd h
outputs_own k (out ∷ outputs) name (inl e) = ap is_own (sym e)
outputs_own k (out ∷ outputs) name (inr h) = outputs_own (suc k) outputs name h

owns_own : (aig : Aig) (name : List ℕ) → In (owns aig) name → is_own name ≡ true
owns_own aig name h = elim (append_cases (map own_variable (sources aig)) (own_outputs 0
    aig.outputs) name h) as (λ _. is_own name ≡ true) [
      | inl i ↦ let r = map_in own_variable (sources aig) name i in ap is_own (sym r.2)
      | inr j ↦ outputs_own 0 aig.outputs name j
    ]

are_own : (aig : Aig) → AreOwn (labels aig)
are_own aig = from_owns (labels aig) (λ name h. owns_own aig name (subst
    (λ ys. In ys name) (owns_are aig) h))

names_long : (taken : List (List ℕ)) (labels : List Label) →
    length (label_names taken labels) ≡ length labels
names_long taken [] = refl
names_long taken (label ∷ labels) = ap suc (names_long (taken ++ option_to_list (usable_symbol taken
    label.symbol)) labels)

pub outputs_long : (k : ℕ) (outputs : List AigOutput) →
    length (own_outputs k outputs) ≡ length outputs
outputs_long k [] = refl
outputs_long k (out ∷ outputs) = ap suc (outputs_long (suc k) outputs)

-- there are as many names as there are inputs, latches and outputs
pub names_count : (aig : Aig) → length (names aig) ≡ length (sources aig) + length aig.outputs
names_count aig =
    names_long [] (labels aig)
    ∙ sym (length-map (labels aig) (λ (label : Label). label.own))
    ∙ ap length (owns_are aig)
    ∙ length-append (map own_variable (sources aig)) (own_outputs 0 aig.outputs)
    ∙ (λ i. length-map (sources aig) own_variable i + outputs_long 0 aig.outputs i)

output_own : (k n : ℕ) (outputs : List AigOutput) (d : List ℕ) → n < length outputs →
    get_or (own_outputs k outputs) n d ≡ own_output (k + n)
output_own k n [] d lt = absurd (omega arith)
output_own k zero (out ∷ outputs) d lt = ap own_output (plus_zero k)
  where
    plus_zero : (k : ℕ) → k ≡ k + 0
    plus_zero k = omega arith
output_own k (suc n) (out ∷ outputs) d lt = output_own (suc k) n outputs d (omega arith)
    ∙ ap own_output (shift k n)
  where
    shift : (k n : ℕ) → suc k + n ≡ k + suc n
    shift k n = omega arith

-- the name at a place, with the own name there
owned_at : (aig : Aig) (k : ℕ) → k < length (names aig) →
    In (owned [] (labels aig)) (get_or (owns aig) k [], get_or (names aig) k [])
owned_at aig k lt =
    let same : length (map (λ (label : Label). label.own) (labels aig)) ≡ length (names aig) =
    length-map (labels aig) (λ (label : Label). label.own) ∙ sym (names_long [] (labels aig)) in
    let long : k < length (map (λ (label : Label). label.own) (labels aig)) = omega arith in
    let here : k < length (owned [] (labels aig)) = omega (
      arith,
      length-zip (map
          (λ (label : Label). label.own) (labels aig)) (names aig),
    ) in
    let e = get_or-zip (map (λ (label : Label). label.own) (labels aig)) (names aig) k ([], []) long
    lt in
    subst (λ (p : List ℕ × List ℕ). In (owned [] (labels aig)) p) (e ∙ ap
    (λ ys. (get_or ys k [], get_or (names aig) k [])) (owns_are aig)) (in_at (owned [] (labels
    aig)) k ([], []) here)

-- a name, where it is that of a thing with this own name
abbrev pub IsNamed : Aig → List ℕ → List ℕ → Type 0
IsNamed aig own name = (is_own own ≡ true) × ((name ≡ own) ⊎ In (owned [] (labels aig)) (own, name))

-- things of the same name have the same name of their own
pub named_apart : (aig : Aig) (own other name : List ℕ) → IsNamed aig own name →
    IsNamed aig other name → own ≡ other
named_apart aig own other name one two = by one.1 two.1
  where
    by : (name ≡ own) ⊎ In (owned [] (labels aig)) (own, name) →
        (name ≡ other) ⊎ In (owned [] (labels aig)) (other, name) → own ≡ other
    by (inl e) (inl f) = sym e ∙ f
    by (inl e) (inr g) = elim (all_fresh [] (labels aig) (other, name) g) as
        (λ _. own ≡ other) [ inl i ↦ sym e ∙ i | inr j ↦ absurd (cc (j.0, one.0, ap is_own e)) ]
    by (inr h) (inl f) = elim (all_fresh [] (labels aig) (own, name) h) as
        (λ _. own ≡ other) [ inl i ↦ sym i ∙ f | inr j ↦ absurd (cc (j.0, two.0, ap is_own f)) ]
    by (inr h) (inr g) = same_own [] (labels aig) (own, name) (other, name) (are_own aig) h g refl

same_number : (a b : ℕ) → nat_eq a b ≡ true → b ≡ a
same_number a b e = grind arith

not_below : (a b : ℕ) → nat_lt a b ≡ false → b ≤ a
not_below a b e = grind arith

get_or_past : {X : Type 0} (xs : List X) (k : ℕ) (d : X) → length xs ≤ k → get_or xs k d ≡ d
get_or_past [] k d h = refl
get_or_past (x ∷ xs) zero d h = absurd (omega arith)
get_or_past (x ∷ xs) (suc k) d h = get_or_past xs k d (omega arith)

-- the name of a variable is that of a thing with its own name
pub variable_named : (aig : Aig) (v : ℕ) → IsNamed aig (own_variable v) (variable_name aig v)
variable_named aig v = (
  refl,
  by (nat_lt (position_or_len (nat_eq v) (sources aig)) (length (sources
      aig))) refl,
)
  where
    place : ℕ
    place = position_or_len (nat_eq v) (sources aig)

    there : place < length (sources aig) → In (owned [] (labels aig)) (
      own_variable v,
      variable_name
          aig v,
    )
    there lt =
        let all : place < length (names aig) = omega (arith, names_count aig) in
        let within : place < length (map own_variable (sources aig)) = omega (
          arith,
          length-map
              (sources aig) own_variable,
        ) in
        let var : get_or (sources aig) place v ≡ v = same_number v _ (passes_at_first (nat_eq v)
        (sources aig) v lt) in
        let own : get_or (owns aig) place [] ≡ own_variable v = get_or-append (map own_variable
        (sources aig)) (own_outputs 0 aig.outputs) [] place within
        ∙ get_or-map own_variable (sources aig) place v [] lt ∙ ap own_variable var in
        let name : get_or (names aig) place [] ≡ variable_name aig v = get_or_default (names aig)
        place [] (own_variable v) all ∙ sym (get_or-take (length (sources aig)) (names aig)
        place (own_variable v) lt) in
        subst (λ (p : List ℕ × List ℕ). In (owned [] (labels aig)) p)
        (λ i. (own i, name i)) (owned_at aig place all)

    by : (b : Bool) → nat_lt place (length (sources aig)) ≡ b →
        (variable_name aig v ≡ own_variable v) ⊎ In (owned [] (labels aig)) (
          own_variable v,
          variable_name aig v,
        )
    by true e = inr (there (grind (arith, e)))
    by false e = inl (get_or_past (source_names aig) place (own_variable v) (omega (
      arith,
      length-take (length (sources aig)) (names aig),
      not_below place (length (sources aig)) e,
    )))

-- so is that of an output
pub output_named : (aig : Aig) (k : ℕ) (name : List ℕ) →
    slice_get (output_names aig) k ≡ Some name → IsNamed aig (own_output k) name
output_named aig k name e =
    let n = length (sources aig) in
    let short : k < length (output_names aig) = slice_get_within (output_names aig) k name e in
    let within : n + k < length (names aig) = omega (arith, length-drop n (names aig)) in
    let there : k < length aig.outputs = omega (arith, names_count aig) in
    let long : length (map own_variable (sources aig)) ≡ n = length-map (sources aig) own_variable
    in
    let own : get_or (owns aig) (n + k) [] ≡ own_output k =
    ap (λ m. get_or (owns aig) (m + k) []) (sym long)
    ∙ get_or-append-add (map own_variable (sources aig)) (own_outputs 0 aig.outputs) k []
    ∙ output_own 0 k aig.outputs [] there ∙ ap own_output (zero_plus k) in
    let named : get_or (names aig) (n + k) [] ≡ name = sym (get_or-drop n (names aig) k [])
    ∙ get_or_from_slice_get (output_names aig) k name [] e in (
      refl,
      inr (subst (λ (p : List ℕ × List ℕ). In (owned [] (labels aig)) p)
          (λ i. (own i, named i)) (owned_at aig (n + k) within)),
    )
  where
    zero_plus : (k : ℕ) → 0 + k ≡ k
    zero_plus k = omega arith

-- there is a name for each output
pub output_names_count : (aig : Aig) → length (output_names aig) ≡ length aig.outputs
output_names_count aig = omega (
  arith,
  length-drop (length (sources aig)) (names aig),
  names_count
      aig,
)

-- the things that have bits: variables, opposites, and outputs by number
pub data Thing : Type 0 where
  variable : ℕ → Thing
  opposite : ℕ → Thing
  output : ℕ → Thing

abbrev pub own_name : Thing → List ℕ
own_name (variable v) = own_variable v
own_name (opposite v) = own_opposite v
own_name (output k) = own_output k

abbrev pub number_of : Thing → ℕ
number_of (variable v) = v
number_of (opposite v) = v
number_of (output k) = k

same_decimal : (a b x y : ℕ) → a < 2 ^ 31 → b < 2 ^ 31 → x ∷ y ∷ decimal a ≡ x ∷ y ∷ decimal b →
    a ≡ b
same_decimal a b x y h g e = decimal_injective a b (omega arith) (omega arith) (ap
    (λ (name : List ℕ). drop 2 name) e)

second_letter : (x y a b : ℕ) (first second : List ℕ) → a ∷ x ∷ first ≡ b ∷ y ∷ second → x ≡ y
second_letter x y a b first second e = ap (λ (name : List ℕ). get_or name 1 0) e

variable_is_no_opposite : (first second : List ℕ) → 36 ∷ 118 ∷ first ≡ 36 ∷ 110 ∷ second → ⊥
variable_is_no_opposite first second e = omega (arith, second_letter 118 110 36 36 first second e)

variable_is_no_output : (first second : List ℕ) → 36 ∷ 118 ∷ first ≡ 36 ∷ 111 ∷ second → ⊥
variable_is_no_output first second e = omega (arith, second_letter 118 111 36 36 first second e)

opposite_is_no_output : (first second : List ℕ) → 36 ∷ 110 ∷ first ≡ 36 ∷ 111 ∷ second → ⊥
opposite_is_no_output first second e = omega (arith, second_letter 110 111 36 36 first second e)

-- different things have different names of their own
pub one_thing : (one other : Thing) → number_of one < 2 ^ 31 → number_of other < 2 ^ 31 →
    own_name one ≡ own_name other → one ≡ other
one_thing (variable v) (variable w) h g e = ap variable (same_decimal v w _ _ h g e)
one_thing (variable v) (opposite w) h g e = absurd (variable_is_no_opposite (decimal v) (decimal w)
    e)
one_thing (variable v) (output w) h g e = absurd (variable_is_no_output (decimal v) (decimal w) e)
one_thing (opposite v) (variable w) h g e = absurd (variable_is_no_opposite (decimal w) (decimal v)
    (sym e))
one_thing (opposite v) (opposite w) h g e = ap opposite (same_decimal v w _ _ h g e)
one_thing (opposite v) (output w) h g e = absurd (opposite_is_no_output (decimal v) (decimal w) e)
one_thing (output v) (variable w) h g e = absurd (variable_is_no_output (decimal w) (decimal v) (sym
    e))
one_thing (output v) (opposite w) h g e = absurd (opposite_is_no_output (decimal w) (decimal v) (sym
    e))
one_thing (output v) (output w) h g e = ap output (same_decimal v w _ _ h g e)
