-- A table grows by a row.
use Rattle.std.proofs.Common.{◌≡◌, ℕ, zero, suc, ◌+◌, ◌-◌, ◌<◌, ◌≤◌, List, [], ◌∷◌, ◌++◌, take, length, get_or, Some, slice_get, arith, refl, sym, ap, ◌∙◌, subst, inl, inr, append_assoc, append-nil, take_all}
use Rattle.std.specs.Prelude.{◌⊎◌, flat_map, option_and_then, slice_index_or}
use Rattle.std.specs.List.{enumerate_from}
use Rattle.std.proofs.lemmas.List.{length_push, take_more, length-take-le}
use Rattle.std.proofs.lemmas.Grind.{flat_map-append}
use Rattle.hierarchy.specs.Reach.{led_to}
use Rattle.instances.specs.declared.table.Row.{Row}
use Rattle.instances.specs.Table.{IsTable, Fits, instances_on}

last_get : {X : Type 0} (xs : List X) (x y : X) (k : ℕ) → slice_get (xs ++ x ∷ []) k ≡ Some y → (slice_get xs k ≡ Some y) ⊎ ((k ≡ length xs) × (x ≡ y))
last_get [] x y zero e = inr (refl, cc)
last_get [] x y (suc k) e = absurd (cc)
last_get (z ∷ xs) x y zero e = inl e
last_get (z ∷ xs) x y (suc k) e = elim (last_get xs x y k e) as (λ _. (slice_get (z ∷ xs) (suc k) ≡ Some y) ⊎ ((suc k ≡ length (z ∷ xs)) × (x ≡ y))) [ inl a ↦ inl a | inr b ↦ inr (ap suc b.0, b.1) ]

pub get_below : {X : Type 0} (xs : List X) (k : ℕ) (x : X) → slice_get xs k ≡ Some x → k < length xs
get_below [] k x e = absurd (cc)
get_below (y ∷ xs) zero x e = omega arith
get_below (y ∷ xs) (suc k) x e = let r = get_below xs k x e in omega arith

take_append : {X : Type 0} (xs ys : List X) (k : ℕ) → k ≤ length xs → take k (xs ++ ys) ≡ take k xs
take_append xs ys zero h = refl
take_append [] ys (suc k) h = absurd (omega arith)
take_append (x ∷ xs) ys (suc k) h = ap (λ l. x ∷ l) (take_append xs ys k (omega arith))

fits_in : (graph : List (List ℕ)) (some others : List (List ℕ)) (row : Row) (path : List ℕ) → some ≡ others → Fits graph some row path → Fits graph others row path
fits_in graph some others row path e f = subst (λ ps. Fits graph ps row path) e f

pub more_row : (graph : List (List ℕ)) (rows : List Row) (paths : List (List ℕ)) (row : Row) (path : List ℕ) → IsTable graph rows paths → Fits graph paths row path → IsTable graph (rows ++ row ∷ []) (paths ++ path ∷ [])
more_row graph rows paths row path t f = record {
  long = let a = length_push rows row in let b = length_push paths path in let c = t.long in omega arith;
  fits = λ k r p e g. elim (last_get rows row r k e) as (λ _. Fits graph (take k (paths ++ path ∷ [])) r p) [
    | inl old ↦ elim (last_get paths path p k g) as (λ _. Fits graph (take k (paths ++ path ∷ [])) r p) [
      | inl older ↦ let low = get_below paths k p older in
          fits_in graph (take k paths) (take k (paths ++ path ∷ [])) r p (sym (take_append paths (path ∷ []) k (omega arith))) (t.fits k r p old older)
      | inr last ↦ let low = get_below rows k r old in let c = t.long in let d : k ≡ length paths = last.0 in absurd (omega arith)
    ]
    | inr new ↦ elim (last_get paths path p k g) as (λ _. Fits graph (take k (paths ++ path ∷ [])) r p) [
      | inl older ↦ let low = get_below paths k p older in let c = t.long in let d : k ≡ length rows = new.0 in absurd (omega arith)
      | inr last ↦ let d : k ≡ length paths = last.0 in
          subst (λ x. Fits graph (take k (paths ++ path ∷ [])) x p) new.1 (subst (λ x. Fits graph (take k (paths ++ path ∷ [])) row x) last.1
          (fits_in graph paths (take k (paths ++ path ∷ [])) row path (sym (take_append paths (path ∷ []) k (omega arith) ∙ take_all k paths (omega arith))) f))
    ]
  ];
}

enumerate_push : {X : Type 0} (xs : List X) (a : ℕ) (x : X) → enumerate_from a (xs ++ x ∷ []) ≡ enumerate_from a xs ++ (a + length xs, x) ∷ []
enumerate_push [] a x = let e : a ≡ a + 0 = omega arith in ap (λ k. (k, x) ∷ []) e
enumerate_push (y ∷ xs) a x = ap (λ l. (a, y) ∷ l) (enumerate_push xs (a + 1) x ∙ ap (λ k. enumerate_from (a + 1) xs ++ (k, x) ∷ []) (shift a (length xs)))
  where
    shift : (a b : ℕ) → a + 1 + b ≡ a + suc b
    shift a b = omega arith

below_next : (graph : List (List ℕ)) (depth : ℕ) (path us : List ℕ) (n next : ℕ) → n < length us → get_or us n 0 ≡ next → flat_map (λ (at : ℕ × ℕ). instances_on graph depth (at.0 ∷ path) at.1) (enumerate_from 0 (take (n + 1) us)) ≡ flat_map (λ (at : ℕ × ℕ). instances_on graph depth (at.0 ∷ path) at.1) (enumerate_from 0 (take n us)) ++ instances_on graph depth (n ∷ path) next
below_next graph depth path us n next h e =
    let long : length (take n us) ≡ n = length-take-le n us (omega arith) in
    let zero_n : 0 + length (take n us) ≡ n = omega arith in
    ap (λ l. flat_map (λ (at : ℕ × ℕ). instances_on graph depth (at.0 ∷ path) at.1) (enumerate_from 0 l)) (take_more us n 0 h)
    ∙ ap (λ l. flat_map (λ (at : ℕ × ℕ). instances_on graph depth (at.0 ∷ path) at.1) l) (enumerate_push (take n us) 0 (get_or us n 0))
    ∙ flat_map-append (λ (at : ℕ × ℕ). instances_on graph depth (at.0 ∷ path) at.1) (enumerate_from 0 (take n us)) ((0 + length (take n us), get_or us n 0) ∷ [])
    ∙ ap (λ l. flat_map (λ (at : ℕ × ℕ). instances_on graph depth (at.0 ∷ path) at.1) (enumerate_from 0 (take n us)) ++ l) (append-nil (instances_on graph depth ((0 + length (take n us)) ∷ path) (get_or us n 0)))
    ∙ ap (λ k. flat_map (λ (at : ℕ × ℕ). instances_on graph depth (at.0 ∷ path) at.1) (enumerate_from 0 (take n us)) ++ instances_on graph depth (k ∷ path) (get_or us n 0)) zero_n
    ∙ ap (λ k. flat_map (λ (at : ℕ × ℕ). instances_on graph depth (at.0 ∷ path) at.1) (enumerate_from 0 (take n us)) ++ instances_on graph depth (n ∷ path) k) e

at_first : (paths rest : List (List ℕ)) (path : List ℕ) → (length paths < length (paths ++ path ∷ rest)) × (get_or (paths ++ path ∷ rest) (length paths) [] ≡ path)
at_first [] rest path = (omega arith, refl)
at_first (p ∷ paths) rest path = let r = at_first paths rest path in (omega arith, r.1)

-- the row of the n-th use below the instance that stands after `paths`
pub inner_fits : (graph : List (List ℕ)) (paths rest : List (List ℕ)) (path : List ℕ) (model here n next : ℕ) → led_to graph 0 path ≡ Some model → here ≡ length paths → slice_get (slice_index_or graph model []) n ≡ Some next → Fits graph (paths ++ path ∷ rest) (record { above = Some here; number = n; model = next }) (n ∷ path)
inner_fits graph paths rest path model here n next e h at =
    let f = at_first paths rest path in
    record {
      model = ap (λ o. option_and_then (λ k. slice_get (slice_index_or graph k []) n) o) e ∙ at;
      link = (subst (λ k. k < length (paths ++ path ∷ rest)) (sym h) f.0, ap (λ p. n ∷ p) (sym f.1 ∙ ap (λ k. get_or (paths ++ path ∷ rest) k []) (sym h)));
    }

pub table_same : {graph : List (List ℕ)} {rows : List Row} {ps qs : List (List ℕ)} → ps ≡ qs → IsTable graph rows ps → IsTable graph rows qs
table_same {graph} {rows} {ps} {qs} e t = subst (λ p. IsTable graph rows p) e t

pub next_paths : (graph : List (List ℕ)) (depth : ℕ) (paths : List (List ℕ)) (path us : List ℕ) (n next : ℕ) → n < length us → get_or us n 0 ≡ next → (paths ++ path ∷ flat_map (λ (at : ℕ × ℕ). instances_on graph depth (at.0 ∷ path) at.1) (enumerate_from 0 (take n us))) ++ instances_on graph depth (n ∷ path) next ≡ paths ++ path ∷ flat_map (λ (at : ℕ × ℕ). instances_on graph depth (at.0 ∷ path) at.1) (enumerate_from 0 (take (n + 1) us))
next_paths graph depth paths path us n next h e =
    append_assoc paths (path ∷ flat_map (λ (at : ℕ × ℕ). instances_on graph depth (at.0 ∷ path) at.1) (enumerate_from 0 (take n us))) (instances_on graph depth (n ∷ path) next)
    ∙ ap (λ l. paths ++ path ∷ l) (sym (below_next graph depth path us n next h e))

pub pushed : (graph : List (List ℕ)) (rows after : List Row) (paths : List (List ℕ)) (row : Row) (path : List ℕ) → after ≡ rows ++ row ∷ [] → IsTable graph rows paths → Fits graph paths row path → IsTable graph after (paths ++ path ∷ [])
pushed graph rows after paths row path e t f = subst (λ r. IsTable graph r (paths ++ path ∷ [])) (sym e) (more_row graph rows paths row path t f)

pub finished : (graph : List (List ℕ)) (depth : ℕ) (paths : List (List ℕ)) (path : List ℕ) (model n : ℕ) → 0 < depth → length (slice_index_or graph model []) ≤ n → paths ++ path ∷ flat_map (λ (at : ℕ × ℕ). instances_on graph (depth - 1) (at.0 ∷ path) at.1) (enumerate_from 0 (take n (slice_index_or graph model []))) ≡ paths ++ instances_on graph depth path model
finished graph zero paths path model n h l = absurd (omega arith)
finished graph (suc depth) paths path model n h l =
    let same : suc depth - 1 ≡ depth = omega arith in
    ap (λ us. paths ++ path ∷ flat_map (λ (at : ℕ × ℕ). instances_on graph (suc depth - 1) (at.0 ∷ path) at.1) (enumerate_from 0 us)) (take_all n (slice_index_or graph model []) l)
    ∙ ap (λ d. paths ++ path ∷ flat_map (λ (at : ℕ × ℕ). instances_on graph d (at.0 ∷ path) at.1) (enumerate_from 0 (slice_index_or graph model []))) same

pub get_of : (us vs : List ℕ) (n next : ℕ) → us ≡ vs → n < length us → get_or us n 0 ≡ next → slice_get vs n ≡ Some next
get_of us vs n next u h e = subst (λ l. slice_get l n ≡ Some next) u (at us n h e)
  where
    at : (xs : List ℕ) (k : ℕ) → k < length xs → get_or xs k 0 ≡ next → slice_get xs k ≡ Some next
    at [] k h e = absurd (omega arith)
    at (y ∷ xs) zero h e = ap Some e
    at (y ∷ xs) (suc k) h e = at xs k (omega arith) e

pub no_more : (us vs : List ℕ) (n : ℕ) → us ≡ vs → length us ≤ n → length vs ≤ n
no_more us vs n u h = subst (λ l. length l ≤ n) u h

pub more_left : (us vs : List ℕ) (n : ℕ) → us ≡ vs → n < length us → n < length vs
more_left us vs n u h = subst (λ l. n < length l) u h

-- a table without rows
pub from_top : (graph : List (List ℕ)) (rows : List Row) → rows ≡ [] → IsTable graph rows []
from_top graph rows e = subst (λ r. IsTable graph r []) (sym e) (record { long = refl; fits = λ k row path a b. absurd (no_row k row a) })
  where
    no_row : (k : ℕ) (row : Row) → slice_get {X = Row} [] k ≡ Some row → ⊥
    no_row zero row e = cc
    no_row (suc k) row e = cc
