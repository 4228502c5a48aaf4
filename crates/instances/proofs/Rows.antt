-- A row's signals have the numbers of their nets.
use Rattle.std.proofs.Common.{◌≡◌, ℕ, zero, suc, ◌+◌, ◌<◌, ◌≤◌, List, [], ◌∷◌, ◌++◌, map, length, take, get_or, Option, None, Some, slice_get, arith, refl, sym, ap, ◌∙◌, subst}
use Rattle.std.specs.Prelude.{bytes_eq, count_by, find, flat_map, is_none, option_map, option_and_then, slice_index_or}
use Rattle.std.specs.List.{position_or_len}
use Rattle.std.proofs.lemmas.List.{get_or-map, length-map, map-append}
use Rattle.std.proofs.lemmas.Option.{slice_get-map}
use Rattle.std.proofs.lemmas.Slice.Eq.{bytes_eq-Decides}
use Rattle.blif_syntax.specs.declared.models.Model.{Model}
use Rattle.hierarchy.specs.Lines.{UseLine, signals, use_lines}
use Rattle.hierarchy.specs.Instances.{actual_of, had_by, instances, model_at, use_at}
use Rattle.hierarchy.specs.Nets.{nets, number_at, own_nets}
use Rattle.hierarchy.specs.Names.{own_name, path_text}
use Rattle.hierarchy.proofs.Members.{In, at_found, found}
use Rattle.hierarchy.proofs.Instances.{stands_on}
use Rattle.instances.specs.declared.table.Row.{Row}
use Rattle.instances.specs.Table.{AreLinked, IsBelow, LinksFit}
use Rattle.instances.specs.Numbers.{AreRows, FitsModels, bound_number, number_of, numbers_from, numbers_in, own_names_in}
use Rattle.instances.specs.private.Above.{Above, above_at, bound_by}
use Rattle.instances.proofs.Homes.{actual_is_signal}
use Rattle.instances.proofs.Counted.{bound_net, names_are, numbers_are, next_is, next_fits, take_next}

-- the number of a name, among numbers that are given name by name
pub number_among : (f : List ℕ → ℕ) (names : List (List ℕ)) (word : List ℕ) → In names word → number_of names (map f names) word ≡ f word
number_among f names word h =
    let low = found (bytes_eq word) word ((bytes_eq-Decides word word).1 refl) (λ y e. (bytes_eq-Decides word y).0 e) names h in
    get_or-map f names (position_or_len (bytes_eq word) names) [] 0 low
    ∙ ap f (at_found (bytes_eq word) word ((bytes_eq-Decides word word).1 refl) (λ y e. (bytes_eq-Decides word y).0 e) names [] h)

-- what is at a place of a list
pub at_place : {X : Type 0} (xs : List X) (k : ℕ) (d : X) → k < length xs → slice_get xs k ≡ Some (get_or xs k d)
at_place [] k d h = absurd (omega arith)
at_place (x ∷ xs) zero d h = refl
at_place (x ∷ xs) (suc k) d h = at_place xs k d (omega arith)

pub taken : {X : Type 0} (xs : List X) (n k : ℕ) → k < n → slice_get (take n xs) k ≡ slice_get xs k
taken xs zero k h = absurd (omega arith)
taken [] (suc n) k h = refl
taken (x ∷ xs) (suc n) zero h = refl
taken (x ∷ xs) (suc n) (suc k) h = taken xs n k (omega arith)

pub below : {X : Type 0} (xs : List X) (k : ℕ) (x : X) → slice_get xs k ≡ Some x → k < length xs
below [] k x e = absurd (cc)
below (y ∷ xs) zero x e = omega arith
below (y ∷ xs) (suc k) x e = let r = below xs k x e in omega arith

one_some : {X : Type 0} {x y : X} → Some x ≡ Some y → x ≡ y
one_some e = cc

map_same : {X Y : Type 0} (f g : X → Y) → ((x : X) → f x ≡ g x) → (xs : List X) → map f xs ≡ map g xs
map_same f g h [] = refl
map_same f g h (x ∷ xs) = ap (λ y. y ∷ map f xs) (h x) ∙ ap (λ l. g x ∷ l) (map_same f g h xs)

pub less : {X : Type 0} (xs : List X) (k n : ℕ) → n < length (take k xs) → n < k
less xs zero n h = absurd (omega arith)
less [] (suc k) n h = absurd (omega arith)
less (x ∷ xs) (suc k) zero h = omega arith
less (x ∷ xs) (suc k) (suc n) h = let r = less xs k n (omega arith) in omega arith

-- the signals of a model by its number
pub signals_of : (models : List Model) (names : List (List (List ℕ))) (number : ℕ) (model : Model) → names ≡ map signals models → slice_get models number ≡ Some model → slice_index_or names number [] ≡ signals model
signals_of models names number model known at = got names number (signals model) (ap (λ l. slice_get l number) known ∙ slice_get-map signals models number ∙ ap (λ o. option_map signals o) at)
  where
    got : {X : Type 0} (xs : List (List X)) (k : ℕ) (x : List X) → slice_get xs k ≡ Some x → slice_index_or xs k [] ≡ x
    got [] k x e = absurd (cc)
    got (y ∷ xs) zero x e = one_some e
    got (y ∷ xs) (suc k) x e = got xs k x e

-- what a use binds has the number of the actual's net
module _ (models : List Model) (above : List ℕ) (number : ℕ) (over : Model) (used : UseLine) (has : model_at models above ≡ Some over) (at : slice_get (use_lines over) number ≡ Some used) where
  its_use : use_at (model_at models above) number ≡ Some used
  its_use = ap (λ m. use_at m number) has ∙ at

  bound_same : (signal : List ℕ) → bound_number (number_of (signals over) (numbers_in models above)) used.bindings signal ≡ bound_net models (number ∷ above) signal
  bound_same signal = by (find (λ binding. bytes_eq binding.0 signal) used.bindings) refl ∙ ap (λ u. option_map (λ actual. number_at models above actual) (option_and_then (λ x. actual_of x signal) u)) (sym its_use)
    where
      by : (o : Option (List ℕ × List ℕ)) → find (λ binding. bytes_eq binding.0 signal) used.bindings ≡ o → option_map (λ (binding : List ℕ × List ℕ). number_of (signals over) (numbers_in models above) binding.1) o ≡ option_map (λ actual. number_at models above actual) (option_map (λ (binding : List ℕ × List ℕ). binding.1) o)
      by None e = refl
      by (Some binding) e =
          let mine : In (signals over) binding.1 = actual_is_signal over number used signal binding.1 at (ap (λ o. option_map (λ (b : List ℕ × List ℕ). b.1) o) e) in
          let same : number_of (signals over) (numbers_in models above) binding.1 ≡ number_at models above binding.1 =
          ap (λ m. number_of (signals over) (map (λ signal. number_at models above signal) (had_by signals m)) binding.1) has ∙ number_among (λ signal. number_at models above signal) (signals over) binding.1 mine in
          ap Some same

module _ (models : List Model) (uses : List (List UseLine)) (names : List (List (List ℕ))) (rows : List Row) (numbers : List (List ℕ)) (k : ℕ) (row : Row) (path : List ℕ) (model : Model)
    (table : AreRows models rows) (uses_known : uses ≡ map use_lines models) (names_known : names ≡ map signals models)
    (done : numbers ≡ map (λ path. numbers_in models path) (take k (instances models)))
    (here : slice_get rows k ≡ Some row) (its : slice_get (instances models) k ≡ Some path) (has : model_at models path ≡ Some model) where
  fits : FitsModels models (take k (instances models)) row path
  fits = table.fits k row path here its

  -- the instance above is that of the path without its last number
  above_is : (above : ℕ) → row.above ≡ Some above → (pa : List ℕ) × (over : Model) × (used : UseLine) × (model_at models pa ≡ Some over) × (slice_get (use_lines over) row.number ≡ Some used) × (path ≡ row.number ∷ pa) × (above_at uses names rows numbers row ≡ Some (record { names = signals over; numbers = numbers_in models pa; bindings = used.bindings }))
  above_is above e =
      let link : (above < length (take k (instances models))) × (path ≡ row.number ∷ slice_index_or (take k (instances models)) above []) = subst (λ o. IsBelow (take k (instances models)) o row.number path) e fits.link in
      let pa = slice_index_or (take k (instances models)) above [] in
      let low_k : above < k = less (instances models) k above link.0 in
      let in_taken = at_place (take k (instances models)) above [] link.0 in
      let in_all : slice_get (instances models) above ≡ Some pa = sym (taken (instances models) k above low_k) ∙ in_taken in
      let low_rows : above < length rows = let l = below rows k row here in omega (arith, l, low_k) in
      let d : Row = row in
      let over_row = get_or rows above d in
      let over_at = at_place rows above d low_rows in
      let over_fits = table.fits above over_row pa over_at in_all in
      let s = stands_on models (model_at models pa) row.number model (ap (λ p. model_at models p) (sym link.1) ∙ has) in
      let over = s.0 in
      let over_model : slice_get models over_row.model ≡ Some over = sym over_fits.model ∙ s.2 in
      let its_names : slice_get names over_row.model ≡ Some (signals over) = ap (λ l. slice_get l over_row.model) names_known ∙ slice_get-map signals models over_row.model ∙ ap (λ o. option_map signals o) over_model in
      let its_uses : slice_get uses over_row.model ≡ Some (use_lines over) = ap (λ l. slice_get l over_row.model) uses_known ∙ slice_get-map use_lines models over_row.model ∙ ap (λ o. option_map use_lines o) over_model in
      let its_numbers : slice_get numbers above ≡ Some (numbers_in models pa) = ap (λ l. slice_get l above) done ∙ slice_get-map (λ p. numbers_in models p) (take k (instances models)) above ∙ ap (λ o. option_map (λ p. numbers_in models p) o) in_taken in
      (pa, over, s.1, s.2, s.3, link.1, found_above row.above e over_row over_at (signals over) its_names (numbers_in models pa) its_numbers (use_lines over) its_uses s.1 s.3)
    where
      found_above : (o : Option ℕ) → o ≡ Some above → (over : Row) → slice_get rows above ≡ Some over → (its_names : List (List ℕ)) → slice_get names over.model ≡ Some its_names → (its_numbers : List ℕ) → slice_get numbers above ≡ Some its_numbers → (its_uses : List UseLine) → slice_get uses over.model ≡ Some its_uses → (used : UseLine) → slice_get its_uses row.number ≡ Some used →
          option_and_then (λ a. option_and_then (λ over. option_and_then (λ its_names. option_and_then (λ its_numbers. option_and_then (λ its_uses. option_and_then {U = Above} (λ (used : UseLine). Some (record { names = its_names; numbers = its_numbers; bindings = used.bindings })) (slice_get its_uses row.number)) (slice_get uses over.model)) (slice_get numbers a)) (slice_get names over.model)) (slice_get rows a)) o ≡ Some (record { names = its_names; numbers = its_numbers; bindings = used.bindings })
      found_above o oe over re its_names ne its_numbers me its_uses ue used ge = rw (oe, re, ne, me, ue, ge) refl

  -- what an instance's signals are bound to
  pub bounds_are : (bounds : List (Option ℕ)) → bounds ≡ map (bound_by (above_at uses names rows numbers row)) (slice_index_or names row.model []) → bounds ≡ map (bound_net models path) (signals model)
  bounds_are bounds is = is ∙ ap (λ l. map (bound_by (above_at uses names rows numbers row)) l) own_names ∙ map_same (bound_by (above_at uses names rows numbers row)) (bound_net models path) (by row.above refl) (signals model)
    where
      own_model : slice_get models row.model ≡ Some model
      own_model = sym fits.model ∙ has

      own_names : slice_index_or names row.model [] ≡ signals model
      own_names = signals_of models names row.model model names_known own_model

      by : (o : Option ℕ) → row.above ≡ o → (signal : List ℕ) → bound_by (above_at uses names rows numbers row) signal ≡ bound_net models path signal
      by None e signal =
          let top : path ≡ [] = subst (λ o. IsBelow (take k (instances models)) o row.number path) e fits.link in
          ap (λ a. bound_by a signal) (nothing row.above e) ∙ ap (λ p. bound_net models p signal) (sym top)
        where
          nothing : (o : Option ℕ) → o ≡ None → option_and_then (λ above. option_and_then (λ (over : Row). option_and_then (λ its_names. option_and_then (λ its_numbers. option_and_then (λ its_uses. option_and_then {U = Above} (λ (used : UseLine). Some (record { names = its_names; numbers = its_numbers; bindings = used.bindings })) (slice_get its_uses row.number)) (slice_get uses over.model)) (slice_get numbers above)) (slice_get names over.model)) (slice_get rows above)) o ≡ None
          nothing o oe = rw oe refl
      by (Some above) e signal =
          let a = above_is above e in
          ap (λ x. bound_by x signal) a.6 ∙ bound_same models a.0 row.number a.1 a.2 a.3 a.4 signal ∙ ap (λ p. bound_net models p signal) (sym a.5)

-- the instance of a row
pub record RowOf (models : List Model) (rows : List Row) (k : ℕ) (row : Row) : Type 0 where
  pub path : List ℕ
  pub model : Model
  pub here : slice_get rows k ≡ Some row
  pub its : slice_get (instances models) k ≡ Some path
  pub has : model_at models path ≡ Some model
  pub number : slice_get models row.model ≡ Some model
  pub low : row.model < length models

pub row_of : (models : List Model) (rows : List Row) (k : ℕ) (d : Row) → AreRows models rows → k < length rows → RowOf models rows k (get_or rows k d)
row_of models rows k d table low =
    let row = get_or rows k d in
    let here = at_place rows k d low in
    let path = get_or (instances models) k [] in
    let its = at_place (instances models) k [] (let l = table.long in omega (arith, l, low)) in
    let fits = table.fits k row path here its in
    let none : Model = record { line = 0; name = []; items = [] } in
    let number = at_place models row.model none fits.has in
    record { path = path; model = get_or models row.model none; here = here; its = its; has = fits.model ∙ number; number = number; low = fits.has }

pub row_low : {X : Type 0} (keys : X → List (List ℕ)) (models : List Model) (rows : List Row) (names : List X) (k : ℕ) (d : Row) → AreRows models rows → map keys names ≡ map signals models → k < length rows → (get_or rows k d).model < length names
row_low keys models rows names k d table e low =
    let r = row_of models rows k d table low in
    let a : length names ≡ length (map keys names) = sym (length-map names keys) in
    let b : length (map keys names) ≡ length (map signals models) = ap (λ l. length l) e in
    let c : length (map signals models) ≡ length models = length-map models signals in
    let f = r.low in
    omega (arith, a, b, c, f)

pub links_fit : (models : List Model) (rows : List Row) → AreRows models rows → LinksFit rows (instances models)
links_fit models rows table = record { long = table.long; fits = λ k row path here its. (table.fits k row path here its).link }

-- the next row
module _ (models : List Model) (uses : List (List UseLine)) (names : List (List (List ℕ))) (rows : List Row) (numbers : List (List ℕ)) (next k : ℕ) (d : Row)
    (table : AreRows models rows) (uses_known : uses ≡ map use_lines models) (names_known : names ≡ map signals models)
    (done : numbers ≡ map (λ path. numbers_in models path) (take k (instances models)))
    (is : next ≡ length (flat_map (λ path. own_nets models path) (take k (instances models))))
    (low : k < length rows) (bounds : List (Option ℕ))
    (bound : bounds ≡ map (bound_by (above_at uses names rows numbers (get_or rows k d))) (slice_index_or names (get_or rows k d).model [])) where
  r : RowOf models rows k (get_or rows k d)
  r = row_of models rows k d table low

  its_bounds : bounds ≡ map (bound_net models r.path) (signals r.model)
  its_bounds = bounds_are models uses names rows numbers k (get_or rows k d) r.path r.model table uses_known names_known done r.here r.its r.has bounds bound

  pub turn_fits : next + count_by is_none bounds ≤ length (nets models)
  turn_fits = next_fits models k r.path r.its r.model r.has next is bounds its_bounds

  pub turn_numbers : numbers ++ numbers_from next bounds ∷ [] ≡ map (λ path. numbers_in models path) (take (k + 1) (instances models))
  turn_numbers =
      let mine = numbers_are models k r.path r.its r.model r.has next is bounds its_bounds in
      ap (λ l. l ++ numbers_from next bounds ∷ []) done
      ∙ ap (λ x. map (λ path. numbers_in models path) (take k (instances models)) ++ x ∷ []) mine
      ∙ sym (map-append (λ path. numbers_in models path) (take k (instances models)) (r.path ∷ []))
      ∙ ap (λ l. map (λ path. numbers_in models path) l) (sym (take_next (instances models) k r.path r.its))

  pub turn_next : next + count_by is_none bounds ≡ length (flat_map (λ path. own_nets models path) (take (k + 1) (instances models)))
  turn_next = next_is models k r.path r.its r.model r.has next is bounds its_bounds

  pub turn_names : (old added : List (List ℕ)) (its : List (Option ℕ)) → old ≡ map own_name (flat_map (λ path. own_nets models path) (take k (instances models))) → its ≡ bounds →
      ((paths : List (List ℕ)) → LinksFit rows paths → (path : List ℕ) → slice_get paths k ≡ Some path → added ≡ old ++ own_names_in (path_text path) (slice_index_or names (get_or rows k d).model []) its) →
      added ≡ map own_name (flat_map (λ path. own_nets models path) (take (k + 1) (instances models)))
  turn_names old added its before same add =
      let mine = signals_of models names (get_or rows k d).model r.model names_known r.number in
      add (instances models) (links_fit models rows table) r.path r.its
      ∙ ap (λ l. l ++ own_names_in (path_text r.path) (slice_index_or names (get_or rows k d).model []) its) before
      ∙ ap (λ l. map own_name (flat_map (λ path. own_nets models path) (take k (instances models))) ++ own_names_in (path_text r.path) l its) mine
      ∙ ap (λ b. map own_name (flat_map (λ path. own_nets models path) (take k (instances models))) ++ own_names_in (path_text r.path) (signals r.model) b) same
      ∙ names_are models k r.path r.its r.model r.has next is bounds its_bounds

  pub turn_long : length bounds ≡ length (slice_index_or names (get_or rows k d).model [])
  turn_long = ap (λ l. length l) bound ∙ length-map (slice_index_or names (get_or rows k d).model []) (bound_by (above_at uses names rows numbers (get_or rows k d)))

pub are_linked : (models : List Model) (rows : List Row) → AreRows models rows → AreLinked rows
are_linked models rows table k row above here e =
    let low = below rows k row here in
    let long = table.long in
    let path = get_or (instances models) k [] in
    let its = at_place (instances models) k [] (omega (arith, low, long)) in
    let link : (above < length (take k (instances models))) × (path ≡ row.number ∷ slice_index_or (take k (instances models)) above []) = subst (λ o. IsBelow (take k (instances models)) o row.number path) e (table.fits k row path here its).link in
    less (instances models) k above link.0
