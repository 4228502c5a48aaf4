-- What a text names, level by level.
use Rattle.std.proofs.Common.{◌≡◌, ℕ, zero, suc, ◌+◌, ◌<◌, ◌≤◌, Bool, true, false, cond, ◌||◌, nat_lt, ◌==◌, List, [], ◌∷◌, map, length, take, drop, get_or, Option, None, Some, slice_get, unwrap_or, arith, refl, sym, ap, ◌∙◌, subst, inl, inr}
use Rattle.std.specs.Prelude.{bytes_eq, option_and_then, option_map, position}
use Rattle.std.specs.List.{list_any, position_from, position_or_len}
use Rattle.std.specs.Option.{option_or}
use Rattle.std.proofs.lemmas.Iterator.Adapters.{position_from-zero}
use Rattle.std.proofs.lemmas.List.Quantifiers.{position-Some}
use Rattle.std.proofs.lemmas.Option.{slice_get-map}
use Rattle.std.proofs.lemmas.Slice.Eq.{bytes_eq-Decides}
use Rattle.std.proofs.lemmas.Bool.Decides.{Decides-eqb}
use Rattle.blif_lines.specs.Lines.{before}
use Rattle.blif_lines.proofs.Scanning.{front, place}
use Rattle.blif_syntax.specs.declared.models.Model.{Model}
use Rattle.blif_syntax.specs.Words.{is_one_of}
use Rattle.hierarchy.specs.Instances.{had_by, instances, model_at}
use Rattle.hierarchy.specs.Lines.{signals, use_lines}
use Rattle.hierarchy.specs.Names.{is_slash, named_in, number_below}
use Rattle.hierarchy.specs.Nets.{home, is_same_signal, nets, number_at}
use Rattle.hierarchy.proofs.Members.{In, at_found, found}
use Rattle.instances.specs.declared.table.Row.{Row}
use Rattle.instances.specs.Table.{IsBelow}
use Rattle.instances.specs.Numbers.{AreRows, numbers_in}
use Rattle.instances.proofs.Homes.{any_in, met, short_home_is_net, signal_itself, signal_same}
use Rattle.instances.proofs.NoRepeats.{walk_distinct}
use Rattle.instances.proofs.Rows.{at_place, below, less, taken}
use Rattle.net_names.specs.declared.names.Link.{Link}
use Rattle.net_names.specs.declared.names.NetNames.{NetNames}
use Rattle.net_names.specs.Names.{AreNamesOf, NamedInRange, NamesAreResolved, is_same_link, link_of, named_by, named_from, number_named, row_below}
use Rattle.net_names.proofs.Links.{below_is, one_place, same_itself, same_link}

-- tests that answer alike
alike : (a b : Bool) → (a ≡ true → b ≡ true) → (b ≡ true → a ≡ true) → a ≡ b
alike true b f g = sym (f refl)
alike false true f g = g refl
alike false false f g = refl

by_steps : {X : Type 0} (p : X → Bool) (xs : List X) → position p xs ≡ position_from p 0 xs
by_steps p xs = position_from-zero p xs

none_passes : {X : Type 0} (p : X → Bool) (xs : List X) (i : ℕ) → list_any p xs ≡ false → position_from p i xs ≡ None
none_passes p [] i e = refl
none_passes p (x ∷ xs) i e = by (p x) e (none_passes p xs (i + 1))
  where
    by : (b : Bool) → (b || list_any p xs) ≡ false → (list_any p xs ≡ false → position_from p (i + 1) xs ≡ None) → cond b (Some i) (position_from p (i + 1) xs) ≡ None
    by true e rest = absurd (cc)
    by false e rest = rest e

-- tests that answer alike place by place find the same place
same_places : {X Y : Type 0} (p : X → Bool) (q : Y → Bool) (xs : List X) (ys : List Y) (i : ℕ) → length xs ≡ length ys → ((k : ℕ) (x : X) (y : Y) → slice_get xs k ≡ Some x → slice_get ys k ≡ Some y → p x ≡ q y) → position_from p i xs ≡ position_from q i ys
same_places p q [] [] i long each = refl
same_places p q [] (y ∷ ys) i long each = absurd (omega (arith, long))
same_places p q (x ∷ xs) [] i long each = absurd (omega (arith, long))
same_places p q (x ∷ xs) (y ∷ ys) i long each =
    ap (λ b. cond b (Some i) (position_from p (i + 1) xs)) (each 0 x y refl refl)
    ∙ ap (λ o. cond (q y) (Some i) o) (same_places p q xs ys (i + 1) (omega (arith, long)) (λ k a b g h. each (suc k) a b g h))

mapped_places : {X Y : Type 0} (f : X → Y) (p : Y → Bool) (xs : List X) (i : ℕ) → position_from p i (map f xs) ≡ position_from (λ x. p (f x)) i xs
mapped_places f p [] i = refl
mapped_places f p (x ∷ xs) i = ap (λ o. cond (p (f x)) (Some i) o) (mapped_places f p xs (i + 1))

-- what stands for a name in a list that goes name by name
looked_up : (f : List ℕ → ℕ) (names : List (List ℕ)) (text : List ℕ) → option_and_then (λ signal. slice_get (map f names) signal) (position (bytes_eq text) names) ≡ cond (is_one_of names text) (Some (f text)) None
looked_up f names text = by (list_any (bytes_eq text) names) refl
  where
    by : (b : Bool) → list_any (bytes_eq text) names ≡ b → option_and_then (λ signal. slice_get (map f names) signal) (position (bytes_eq text) names) ≡ cond b (Some (f text)) None
    by true e =
        let here = any_in text names e in
        let itself : bytes_eq text text ≡ true = (bytes_eq-Decides text text).1 refl in
        let low = found (bytes_eq text) text itself (λ y same. (bytes_eq-Decides text y).0 same) names here in
        let at = at_found (bytes_eq text) text itself (λ y same. (bytes_eq-Decides text y).0 same) names [] here in
        let k : ℕ = position_or_len (bytes_eq text) names in
        let passes : nat_lt k (length names) ≡ true = grind (arith, low) in
        ap (λ b. option_and_then (λ signal. slice_get (map f names) signal) (cond b (Some k) None)) passes
        ∙ slice_get-map f names k
        ∙ ap (λ o. option_map f o) (at_place names k [] low ∙ ap Some at)
    by false e = ap (λ o. option_and_then (λ signal. slice_get (map f names) signal) o) (by_steps (bytes_eq text) names ∙ none_passes (bytes_eq text) names 0 e)

low_at : {X : Type 0} (xs : List X) (k : ℕ) (x : X) → slice_get xs k ≡ Some x → k < length xs
low_at xs k x e = below xs k x e

-- what is in a list is found there
missed : (p : List ℕ → Bool) (x : List ℕ) → p x ≡ true → (xs : List (List ℕ)) (i : ℕ) → In xs x → position_from p i xs ≡ None → ⊥
missed p x passes [] i h e = h
missed p x passes (y ∷ xs) i h e = by (p y) refl e (λ g f. missed p x passes xs (i + 1) g f) h
  where
    by : (b : Bool) → p y ≡ b → cond b (Some i) (position_from p (i + 1) xs) ≡ None → (In xs x → position_from p (i + 1) xs ≡ None → ⊥) → In (y ∷ xs) x → ⊥
    by true t e rest h = absurd (cc)
    by false t e rest (inl same) = absurd (cc (t, passes, ap p same))
    by false t e rest (inr h) = rest h e

-- what is found passes
found_path : (p : List ℕ → Bool) (x : List ℕ) → ((y : List ℕ) → p y ≡ true → x ≡ y) → (xs : List (List ℕ)) (k : ℕ) → position p xs ≡ Some k → slice_get xs k ≡ Some x
found_path p x only xs k e = let h = position-Some p xs k [] e in at_place xs k [] h.0 ∙ ap Some (sym (only (get_or xs k []) h.1))

-- where there is no instance, a text names nothing
nothing_there : (models : List Model) (depth : ℕ) (path text : List ℕ) → model_at models path ≡ None → named_in models depth path text ≡ None
nothing_there models zero path text e = refl
nothing_there models (suc depth) path text e = rw e (by (length (before is_slash text) == length text) None refl)
  where
    by : (b : Bool) (o : Option ℕ) → o ≡ None → cond b None o ≡ None
    by true o e = refl
    by false o e = e

pub some_left : (depth : ℕ) → (depth ≡ 0 → ⊥) → 0 < depth
some_left depth some = omega (arith, some)

abbrev none_model : Model
none_model = record { line = 0; name = []; items = [] }

abbrev no_row : Row
no_row = record { above = None; number = 0; model = 0 }

-- the tests of a row's link and of its path
module _ (models : List Model) (rows : List Row) (table : AreRows models rows) (place_of : ℕ) (path : List ℕ) (its : slice_get (instances models) place_of ≡ Some path) (number : ℕ) where
  abbrev link : Link
  link = record { above = Some place_of; number = number }

  path_is : (k : ℕ) (row : Row) (other : List ℕ) → slice_get rows k ≡ Some row → slice_get (instances models) k ≡ Some other → is_same_link link (link_of row) ≡ true → bytes_eq (number ∷ path) other ≡ true
  path_is k row other here there e =
      let same : link ≡ link_of row = same_link link (link_of row) e in
      let above : row.above ≡ Some place_of = sym (ap (λ l. l.above) same) in
      let count : row.number ≡ number = sym (ap (λ l. l.number) same) in
      let is : other ≡ row.number ∷ path = below_is models rows table k row other place_of path here there above its in
      (bytes_eq-Decides (number ∷ path) other).1 (sym (is ∙ ap (λ n. n ∷ path) count))

  link_is : (k : ℕ) (row : Row) (other : List ℕ) → slice_get rows k ≡ Some row → slice_get (instances models) k ≡ Some other → bytes_eq (number ∷ path) other ≡ true → is_same_link link (link_of row) ≡ true
  link_is k row other here there e = by row.above refl
    where
      same : number ∷ path ≡ other
      same = (bytes_eq-Decides (number ∷ path) other).0 e

      by : (o : Option ℕ) → row.above ≡ o → is_same_link link (link_of row) ≡ true
      by None is = let x : other ≡ [] = subst (λ o. IsBelow (take k (instances models)) o row.number other) is (table.fits k row other here there).link in let y : number ∷ path ≡ [] = same ∙ x in absurd (cc)
      by (Some above) is =
          let over = get_or (take k (instances models)) above [] in
          let below : (above < length (take k (instances models))) × (other ≡ row.number ∷ over) = subst (λ o. IsBelow (take k (instances models)) o row.number other) is (table.fits k row other here there).link in
          let at : slice_get (instances models) above ≡ Some over = sym (taken (instances models) k above (less (instances models) k above below.0)) ∙ at_place (take k (instances models)) above [] below.0 in
          let whole : number ∷ path ≡ row.number ∷ over = same ∙ below.1 in
          let count : number ≡ row.number = ap (λ l. get_or l 0 0) whole in
          let tail : path ≡ over = ap (λ l. drop 1 l) whole in
          let up : above ≡ place_of = one_place (instances models) (walk_distinct models 65 [] (slice_get models 0)) above place_of path (at ∙ ap Some (sym tail)) its in
          let above_same : link.above ≡ row.above = ap Some (sym up) ∙ sym is in
          let equal : link ≡ link_of row = (λ i. record { above = above_same i; number = count i }) in
          subst (λ l. is_same_link link l ≡ true) equal (same_itself link)

  -- the row to which a row and a number lead is that of the instance of that path
  pub links_to : position (is_same_link link) (map link_of rows) ≡ position (bytes_eq (number ∷ path)) (instances models)
  links_to =
      by_steps (is_same_link link) (map link_of rows)
      ∙ mapped_places link_of (is_same_link link) rows 0
      ∙ same_places (λ row. is_same_link link (link_of row)) (bytes_eq (number ∷ path)) rows (instances models) 0 table.long (λ k row other here there. alike (is_same_link link (link_of row)) (bytes_eq (number ∷ path) other) (path_is k row other here there) (link_is k row other here there))
      ∙ sym (by_steps (bytes_eq (number ∷ path)) (instances models))

module _ (models : List Model) (names : NetNames) (known : AreNamesOf models names) (place_of : ℕ) (path : List ℕ) (its : slice_get (instances models) place_of ≡ Some path) where
  low : place_of < length names.rows.items
  low = let l = known.rows_known.long in let b = low_at (instances models) place_of path its in omega (arith, l, b)

  abbrev row : Row
  row = get_or names.rows.items place_of no_row

  here : slice_get names.rows.items place_of ≡ Some row
  here = at_place names.rows.items place_of no_row low

  abbrev model : Model
  model = get_or models row.model none_model

  its_model : slice_get models row.model ≡ Some model
  its_model = at_place models row.model none_model (known.rows_known.fits place_of row path here its).has

  has : model_at models path ≡ Some model
  has = (known.rows_known.fits place_of row path here its).model ∙ its_model

  its_signals : slice_get (map (λ set. set.keys) names.signals.items) row.model ≡ Some (signals model)
  its_signals = ap (λ l. slice_get l row.model) known.signals_known ∙ slice_get-map signals models row.model ∙ ap (λ o. option_map signals o) its_model

  its_uses : slice_get names.uses.items row.model ≡ Some (length (use_lines model))
  its_uses = ap (λ l. slice_get l row.model) known.uses_known ∙ slice_get-map (λ m. length (use_lines m)) models row.model ∙ ap (λ o. option_map (λ m. length (use_lines m)) o) its_model

  its_numbers : slice_get names.numbers.items place_of ≡ Some (map (λ signal. number_at models path signal) (signals model))
  its_numbers =
      ap (λ l. slice_get l place_of) known.numbers_known
      ∙ slice_get-map (λ p. numbers_in models p) (instances models) place_of
      ∙ ap (λ o. option_map (λ p. numbers_in models p) o) its
      ∙ ap (λ m. Some (map (λ signal. number_at models path signal) (had_by signals m))) has

  -- the number that stands for a signal is that of its net
  signal_is : (text : List ℕ) → number_named names place_of text ≡ cond (is_one_of (had_by signals (model_at models path)) text) (Some (number_at models path text)) None
  signal_is text =
      chain (slice_get names.rows.items place_of) here (map (λ set. set.keys) names.signals.items) its_signals (slice_get names.numbers.items place_of) its_numbers
      ∙ looked_up (λ signal. number_at models path signal) (signals model) text
      ∙ ap (λ m. cond (is_one_of (had_by signals m) text) (Some (number_at models path text)) None) (sym has)
    where
      chain : (o : Option Row) → o ≡ Some row → (sets : List (List (List ℕ))) → slice_get sets row.model ≡ Some (signals model) → (n : Option (List ℕ)) → n ≡ Some (map (λ signal. number_at models path signal) (signals model)) →
          option_and_then (λ (row : Row). option_and_then (λ its_signals. option_and_then (λ its_numbers. option_and_then (λ signal. slice_get its_numbers signal) (position (bytes_eq text) its_signals)) n) (slice_get sets row.model)) o
          ≡ option_and_then (λ signal. slice_get (map (λ signal. number_at models path signal) (signals model)) signal) (position (bytes_eq text) (signals model))
      chain o oe sets se n ne = rw (oe, se, ne) refl

  -- the row that a text leads to is that of the instance
  row_is : (text : List ℕ) → row_below names place_of text ≡ option_and_then (λ number. position (bytes_eq (number ∷ path)) (instances models)) (number_below (length (had_by use_lines (model_at models path))) text)
  row_is text =
      chain (slice_get names.rows.items place_of) here names.uses.items its_uses
      ∙ each (number_below (length (use_lines model)) text)
      ∙ ap (λ m. option_and_then (λ number. position (bytes_eq (number ∷ path)) (instances models)) (number_below (length (had_by use_lines m)) text)) (sym has)
    where
      chain : (o : Option Row) → o ≡ Some row → (counts : List ℕ) → slice_get counts row.model ≡ Some (length (use_lines model)) →
          option_and_then (λ (row : Row). option_and_then (λ count. option_and_then (λ number. position (is_same_link (record { above = Some place_of; number = number })) names.links.keys) (number_below count text)) (slice_get counts row.model)) o
          ≡ option_and_then (λ number. position (is_same_link (record { above = Some place_of; number = number })) names.links.keys) (number_below (length (use_lines model)) text)
      chain o oe counts ce = rw (oe, ce) refl

      each : (o : Option ℕ) → option_and_then (λ number. position (is_same_link (record { above = Some place_of; number = number })) names.links.keys) o ≡ option_and_then (λ number. position (bytes_eq (number ∷ path)) (instances models)) o
      each None = refl
      each (Some number) = ap (λ l. position (is_same_link (record { above = Some place_of; number = number })) l) known.links_known ∙ links_to models names.rows.items known.rows_known place_of path its number

  -- a text that is a signal names its net
  pub signal_named : (depth : ℕ) (text : List ℕ) (number : ℕ) → 0 < depth → number_named names place_of text ≡ Some number → Some number ≡ named_in models depth path text
  signal_named zero text number some e = absurd (omega (arith, some))
  signal_named (suc depth) text number some e = by (is_one_of (had_by signals (model_at models path)) text) refl (sym e ∙ signal_is text)
    where
      by : (b : Bool) → is_one_of (had_by signals (model_at models path)) text ≡ b → Some number ≡ cond b (Some (number_at models path text)) None → Some number ≡ named_in models (suc depth) path text
      by true is h = h ∙ rw is refl
      by false is h = absurd (cc)

  no_signal : (text : List ℕ) → number_named names place_of text ≡ None → is_one_of (had_by signals (model_at models path)) text ≡ false
  no_signal text e = by (is_one_of (had_by signals (model_at models path)) text) (sym e ∙ signal_is text)
    where
      by : (b : Bool) → None ≡ cond b (Some (number_at models path text)) None → b ≡ false
      by true h = absurd (cc)
      by false h = refl

  -- a text that is no signal and has no slash names nothing
  pub no_slash : (depth : ℕ) (text : List ℕ) → 0 < depth → number_named names place_of text ≡ None → position is_slash text ≡ None → None ≡ named_in models depth path text
  no_slash zero text some e slash = absurd (omega (arith, some))
  no_slash (suc depth) text some e slash =
      let long : length text ≡ length (before is_slash text) = ap (λ o. unwrap_or o (length text)) (sym slash) ∙ place is_slash text in
      let test : (length (before is_slash text) == length text) ≡ true = (Decides-eqb (length (before is_slash text)) (length text)).1 (sym long) in
      rw (no_signal text e, test) refl

  -- a text that is no signal and has a slash names what the text behind it names in the subcircuit before it
  behind : (depth : ℕ) (text : List ℕ) (slash : ℕ) → number_named names place_of text ≡ None → position is_slash text ≡ Some slash → option_and_then (λ number. named_in models depth (number ∷ path) (drop (suc slash) text)) (number_below (length (had_by use_lines (model_at models path))) (take slash text)) ≡ named_in models (suc depth) path text
  behind depth text slash e is =
      let at : slash ≡ length (before is_slash text) = ap (λ o. unwrap_or o (length text)) (sym is) ∙ place is_slash text in
      let head : take slash text ≡ before is_slash text = ap (λ o. take (unwrap_or o (length text)) text) (sym is) ∙ front is_slash text in
      let small : slash < length text = (position-Some is_slash text slash 0 is).0 in
      let test : (length (before is_slash text) == length text) ≡ false = apart (length (before is_slash text)) (length text) (omega (arith, small, at)) in
      ap (λ n. option_and_then (λ number. named_in models depth (number ∷ path) (drop (suc n) text)) (number_below (length (had_by use_lines (model_at models path))) (take slash text))) at
      ∙ ap (λ h. option_and_then (λ number. named_in models depth (number ∷ path) (drop (suc (length (before is_slash text))) text)) (number_below (length (had_by use_lines (model_at models path))) h)) head
      ∙ sym (rw (no_signal text e, test) refl)
    where
      apart : (m n : ℕ) → m < n → (m == n) ≡ false
      apart m n h = by (m == n) refl
        where
          by : (b : Bool) → (m == n) ≡ b → b ≡ false
          by true e = let same = (Decides-eqb m n).0 e in absurd (omega (arith, h, same))
          by false e = refl

  -- no row stands below
  pub no_row_below : (depth : ℕ) (text : List ℕ) (slash : ℕ) → 0 < depth → number_named names place_of text ≡ None → position is_slash text ≡ Some slash → row_below names place_of (take slash text) ≡ None → None ≡ named_in models depth path text
  no_row_below zero text slash some e is none = absurd (omega (arith, some))
  no_row_below (suc depth) text slash some e is none = by (number_below (length (had_by use_lines (model_at models path))) (take slash text)) (sym (row_is (take slash text)) ∙ none) ∙ behind depth text slash e is
    where
      by : (o : Option ℕ) → option_and_then (λ number. position (bytes_eq (number ∷ path)) (instances models)) o ≡ None → None ≡ option_and_then (λ number. named_in models depth (number ∷ path) (drop (suc slash) text)) o
      by None h = refl
      by (Some number) h = sym (nothing_there models depth (number ∷ path) (drop (suc slash) text) (no_model (model_at models (number ∷ path)) refl))
        where
          no_model : (o : Option Model) → model_at models (number ∷ path) ≡ o → o ≡ None
          no_model None e = refl
          no_model (Some m) e = absurd (missed (bytes_eq (number ∷ path)) (number ∷ path) ((bytes_eq-Decides (number ∷ path) (number ∷ path)).1 refl) (instances models) 0 (met models known.shallow (number ∷ path) m e) (sym (by_steps (bytes_eq (number ∷ path)) (instances models)) ∙ h))

  -- a row stands below
  pub row_found : (depth : ℕ) (text : List ℕ) (slash lower : ℕ) (result : Option ℕ) → number_named names place_of text ≡ None → position is_slash text ≡ Some slash → row_below names place_of (take slash text) ≡ Some lower →
      ((path : List ℕ) → slice_get (instances models) lower ≡ Some path → result ≡ named_in models depth path (drop (suc slash) text)) → result ≡ named_in models (suc depth) path text
  row_found depth text slash lower result e is at then = by (number_below (length (had_by use_lines (model_at models path))) (take slash text)) (sym (row_is (take slash text)) ∙ at) ∙ behind depth text slash e is
    where
      by : (o : Option ℕ) → option_and_then (λ number. position (bytes_eq (number ∷ path)) (instances models)) o ≡ Some lower → result ≡ option_and_then (λ number. named_in models depth (number ∷ path) (drop (suc slash) text)) o
      by None h = absurd (cc)
      by (Some number) h = then (number ∷ path) (found_path (bytes_eq (number ∷ path)) (number ∷ path) (λ y same. (bytes_eq-Decides (number ∷ path) y).0 same) (instances models) lower h)

-- the first instance is the top
pub first_path : (models : List Model) → 0 < length models → slice_get (instances models) 0 ≡ Some []
first_path [] some = absurd (omega (arith, some))
first_path (_ ∷ models) some = refl

-- what texts name in the instances in rows is what they name in those instances, with so many levels left
abbrev AreResolved : List Model → NetNames → ℕ → Type 0
AreResolved models names depth = (lower : ℕ) (its_path behind : List ℕ) → slice_get (instances models) lower ≡ Some its_path → named_from names depth lower behind ≡ named_in models depth its_path behind

-- so they are where these are the names of the hierarchy
resolved : (models : List Model) (names : NetNames) → AreNamesOf models names → (depth place_of : ℕ) (path text : List ℕ) → slice_get (instances models) place_of ≡ Some path → named_from names depth place_of text ≡ named_in models depth path text
resolved models names known zero place_of path text its = refl
resolved models names known (suc depth) place_of path text its = signal (λ lower its_path behind at. resolved models names known depth lower its_path behind at) (number_named names place_of text) refl
  where
    row : AreResolved models names depth → number_named names place_of text ≡ None → (slash : ℕ) → position is_slash text ≡ Some slash → (o : Option ℕ) → row_below names place_of (take slash text) ≡ o →
        option_and_then (λ lower. named_from names depth lower (drop (suc slash) text)) o ≡ named_in models (suc depth) path text
    row again none slash is None at = no_row_below models names known place_of path its (suc depth) text slash (omega arith) none is at
    row again none slash is (Some lower) at = row_found models names known place_of path its depth text slash lower (named_from names depth lower (drop (suc slash) text)) none is at (λ its_path here. again lower its_path (drop (suc slash) text) here)

    slashed : AreResolved models names depth → number_named names place_of text ≡ None → (o : Option ℕ) → position is_slash text ≡ o →
        option_and_then (λ slash. option_and_then (λ lower. named_from names depth lower (drop (suc slash) text)) (row_below names place_of (take slash text))) o ≡ named_in models (suc depth) path text
    slashed again none None is = no_slash models names known place_of path its (suc depth) text (omega arith) none is
    slashed again none (Some slash) is = row again none slash is (row_below names place_of (take slash text)) refl

    signal : AreResolved models names depth → (o : Option ℕ) → number_named names place_of text ≡ o →
        option_or o (option_and_then (λ slash. option_and_then (λ lower. named_from names depth lower (drop (suc slash) text)) (row_below names place_of (take slash text))) (position is_slash text)) ≡ named_in models (suc depth) path text
    signal again None e = slashed again e (position is_slash text) refl
    signal again (Some number) e = signal_named models names known place_of path its (suc depth) text number (omega arith) e

-- by the parts of the names, a text names what it names in the hierarchy
pub names_are_resolved : NamesAreResolved
unfolding named_by
names_are_resolved models names known text = resolved models names known 65 0 [] text (first_path models known.some)

-- what texts name in an instance below one is the number of a net
abbrev AreLow : List Model → ℕ → List ℕ → ℕ → Type 0
AreLow models depth path n = (number : ℕ) (behind : List ℕ) → named_in models depth (number ∷ path) behind ≡ Some n → n < length (nets models)

-- what a text names in an instance is the number of a net, where the levels left and those of the path are at most 65
in_range : (models : List Model) (depth : ℕ) (path text : List ℕ) (n : ℕ) → depth + length path ≤ 65 → named_in models depth path text ≡ Some n → n < length (nets models)
in_range models zero path text n short e = absurd (cc)
in_range models (suc depth) path text n short e = signal (λ number behind is. in_range models depth (number ∷ path) behind n (omega (arith, short)) is) (is_one_of (had_by signals (model_at models path)) text) refl e
  where
    net : (o : Option Model) → model_at models path ≡ o → is_one_of (had_by signals o) text ≡ true → number_at models path text < length (nets models)
    net None at is = absurd (cc)
    net (Some model) at is =
        let p = home models path text in
        found (λ net. is_same_signal p net) p (signal_itself p) (λ net same. signal_same p net same) (nets models) (short_home_is_net models path model text (omega (arith, short)) at (any_in text (signals model) is))

    same : (a b : ℕ) → Some a ≡ Some b → a ≡ b
    same a b h = cc

    behind : AreLow models depth path n → (o : Option ℕ) → option_and_then (λ number. named_in models depth (number ∷ path) (drop (suc (length (before is_slash text))) text)) o ≡ Some n → n < length (nets models)
    behind again None h = absurd (cc)
    behind again (Some number) h = again number (drop (suc (length (before is_slash text))) text) h

    slash : AreLow models depth path n → (b : Bool) → cond b None (option_and_then (λ number. named_in models depth (number ∷ path) (drop (suc (length (before is_slash text))) text)) (number_below (length (had_by use_lines (model_at models path))) (before is_slash text))) ≡ Some n → n < length (nets models)
    slash again true h = absurd (cc)
    slash again false h = behind again (number_below (length (had_by use_lines (model_at models path))) (before is_slash text)) h

    signal : AreLow models depth path n → (b : Bool) → is_one_of (had_by signals (model_at models path)) text ≡ b → cond b (Some (number_at models path text)) (cond (length (before is_slash text) == length text) None (option_and_then (λ number. named_in models depth (number ∷ path) (drop (suc (length (before is_slash text))) text)) (number_below (length (had_by use_lines (model_at models path))) (before is_slash text)))) ≡ Some n → n < length (nets models)
    signal again true is h = subst (λ k. k < length (nets models)) (same (number_at models path text) n h) (net (model_at models path) refl is)
    signal again false is h = slash again (length (before is_slash text) == length text) h

-- what a text names is the number of a net
pub named_in_range : NamedInRange
named_in_range models text n e = in_range models 65 [] text n (omega arith) e
