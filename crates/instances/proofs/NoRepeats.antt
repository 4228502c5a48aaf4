-- Lists without repeats; the nets are one.
use Rattle.std.proofs.Common.{◌≡◌, ℕ, zero, suc, ◌+◌, append_assoc, ◌<◌, ◌≤◌, Bool, true, false, not, cond, ◌||◌, List, [], ◌∷◌, ◌++◌, map, length, length-append, Option, None, Some, slice_get, get_or, arith, refl, sym, ap, ◌∙◌, subst, inl, inr, true≢false}
use Rattle.std.specs.Prelude.{◌⊎◌, ⊤, flat_map, filter, bytes_eq, is_some}
use Rattle.std.specs.Option.{option_map_or}
use Rattle.std.specs.List.{list_any, position_or_len, enumerate_from}
use Rattle.std.proofs.lemmas.Slice.Eq.{bytes_eq-Decides}
use Rattle.indexmap.specs.IndexSet.{insert_key, insert_all}
use Rattle.blif_syntax.specs.declared.models.Model.{Model}
use Rattle.hierarchy.specs.Lines.{use_lines, signal_words, signals}
use Rattle.hierarchy.specs.Instances.{model_named, model_at, is_bound, bound_to, had_by, instances_below, instances}
use Rattle.hierarchy.specs.Nets.{InstanceSignal, is_same_signal, home, own_nets, nets}
use Rattle.hierarchy.proofs.Members.{In, append_cases, flat_map_in, map_in, filter_in, in_at, in_map}
use Rattle.instances.proofs.Homes.{signal_same, signal_itself}

abbrev pub Distinct : {X : Type 0} → List X → Type 0
Distinct [] = ⊤
Distinct (x ∷ xs) = (In xs x → ⊥) × Distinct xs

module _ {X : Type 0} where
  distinct_append : (xs ys : List X) → Distinct xs → Distinct ys → ((x : X) → In xs x → In ys x → ⊥) → Distinct (xs ++ ys)
  distinct_append [] ys d e apart = e
  distinct_append (x ∷ xs) ys d e apart = (by (append_cases xs ys x) d.0 (apart x (inl refl)), distinct_append xs ys d.1 e (λ y i j. apart y (inr i) j))
    where
      by : (In (xs ++ ys) x → In xs x ⊎ In ys x) → (In xs x → ⊥) → (In ys x → ⊥) → In (xs ++ ys) x → ⊥
      by cases a b h = elim (cases h) as (λ _. ⊥) [ inl i ↦ a i | inr j ↦ b j ]

  distinct_filter : (p : X → Bool) (xs : List X) → Distinct xs → Distinct (filter p xs)
  distinct_filter p [] d = tt
  distinct_filter p (x ∷ xs) d = by (p x) (distinct_filter p xs d.1) (λ i. d.0 ((filter_in p xs x i).0))
    where
      by : (b : Bool) → Distinct (filter p xs) → (In (filter p xs) x → ⊥) → Distinct (cond b (x ∷ filter p xs) (filter p xs))
      by true r f = (f, r)
      by false r f = r

module _ {X Y : Type 0} (f : X → Y) (one : (a b : X) → f a ≡ f b → a ≡ b) where
  distinct_map : (xs : List X) → Distinct xs → Distinct (map f xs)
  distinct_map [] d = tt
  distinct_map (x ∷ xs) d = (λ i. let r = map_in f xs (f x) i in d.0 (subst (λ y. In xs y) (one r.0 x r.2) r.1), distinct_map xs d.1)

module _ {X Y : Type 0} (f : X → List Y) (one : (a b : X) (y : Y) → In (f a) y → In (f b) y → a ≡ b) (each : (x : X) → Distinct (f x)) where
  distinct_flat_map : (xs : List X) → Distinct xs → Distinct (flat_map f xs)
  distinct_flat_map [] d = tt
  distinct_flat_map (x ∷ xs) d = distinct_append (f x) (flat_map f xs) (each x) (distinct_flat_map xs d.1) (λ y i j. let r = flat_map_in f xs y j in d.0 (subst (λ z. In xs z) (one r.0 x y r.2 i) r.1))

at_least : {X : Type 0} (xs : List X) (n : ℕ) (at : ℕ × X) → In (enumerate_from n xs) at → n ≤ at.0
at_least [] n at h = absurd h
at_least (x ∷ xs) n at (inl e) = let f : n ≡ at.0 = ap (λ p. p.0) e in omega arith
at_least (x ∷ xs) n at (inr h) = let r = at_least xs (n + 1) at h in omega arith

numbers_once : {X : Type 0} (xs : List X) (n : ℕ) → Distinct (map (λ p. p.0) (enumerate_from n xs))
numbers_once [] n = tt
numbers_once (x ∷ xs) n = (λ i. let r = map_in (λ p. p.0) (enumerate_from (n + 1) xs) n i in let s = at_least xs (n + 1) r.0 r.1 in let e : r.0.0 ≡ n = r.2 in omega arith, numbers_once xs (n + 1))

-- lists of lists by numbered items, which differ where the numbers do
module _ {X Y : Type 0} (f : ℕ × X → List Y) (one : (a b : ℕ × X) (y : Y) → In (f a) y → In (f b) y → a.0 ≡ b.0) (each : (x : ℕ × X) → Distinct (f x)) where
  distinct_numbered : (xs : List (ℕ × X)) → Distinct (map (λ p. p.0) xs) → Distinct (flat_map f xs)
  distinct_numbered [] d = tt
  distinct_numbered (x ∷ xs) d = distinct_append (f x) (flat_map f xs) (each x) (distinct_numbered xs d.1) (λ y i j. let r = flat_map_in f xs y j in d.0 (subst (λ z. In (map (λ p. p.0) xs) z) (one r.0 x y r.2 i) (in_map (λ p. p.0) xs r.0 r.1)))

insert_distinct : (keys : List (List ℕ)) (name : List ℕ) → Distinct keys → Distinct (insert_key bytes_eq keys name)
insert_distinct keys name d = by (list_any (bytes_eq name) keys) refl
  where
    none : (ks : List (List ℕ)) → list_any (bytes_eq name) ks ≡ false → In ks name → ⊥
    none [] e h = h
    none (k ∷ ks) e (inl i) = true≢false (sym (ap (λ b. b || list_any (bytes_eq name) ks) ((bytes_eq-Decides name k).1 (sym i))) ∙ e)
    none (k ∷ ks) e (inr h) = no (bytes_eq name k) e (λ w. none ks w h)
      where
        no : (b : Bool) → (b || list_any (bytes_eq name) ks) ≡ false → (list_any (bytes_eq name) ks ≡ false → ⊥) → ⊥
        no true w again = absurd (cc)
        no false w again = again w

    by : (b : Bool) → list_any (bytes_eq name) keys ≡ b → Distinct (cond b keys (keys ++ name ∷ []))
    by true e = d
    by false e = distinct_append keys (name ∷ []) d ((λ i. i), tt) (λ x i j. elim j as (λ _. ⊥) [ inl same ↦ none keys e (subst (λ y. In keys y) (sym same) i) | inr w ↦ w ])

insert_all_distinct : (names keys : List (List ℕ)) → Distinct keys → Distinct (insert_all bytes_eq keys names)
insert_all_distinct [] keys d = d
insert_all_distinct (name ∷ names) keys d = insert_all_distinct names (insert_key bytes_eq keys name) (insert_distinct keys name d)

signals_distinct : (o : Option Model) → Distinct (had_by signals o)
signals_distinct None = tt
signals_distinct (Some model) = insert_all_distinct (flat_map (λ item. signal_words item.what) model.items) [] tt

-- lists of one length at the end of equal lists are equal
same_end : (q r x y : List ℕ) → length x ≡ length y → q ++ x ≡ r ++ y → x ≡ y
same_end [] [] x y l e = e
same_end [] (b ∷ r) x y l e = let m : length x ≡ length (b ∷ (r ++ y)) = ap length e in let k = length-append r y in absurd (omega arith)
same_end (a ∷ q) [] x y l e = let m : length (a ∷ (q ++ x)) ≡ length y = ap length e in let k = length-append q x in absurd (omega arith)
same_end (a ∷ q) (b ∷ r) x y l e = same_end q r x y l (cc)

module _ (models : List Model) where
  -- the paths of a instances_below end with its base
  ends : (depth : ℕ) (base : List ℕ) (over : Option Model) (path : List ℕ) → In (instances_below models depth base over) path → (q : List ℕ) × (path ≡ q ++ base)
  ends zero base over path h = absurd h
  ends (suc depth) base None path h = absurd h
  ends (suc depth) base (Some m) path (inl e) = ([], sym e)
  ends (suc depth) base (Some m) path (inr h) =
      let r = flat_map_in (λ at. instances_below models depth (at.0 ∷ base) (model_named models at.1.model)) (enumerate_from 0 (use_lines m)) path h in
      let i = ends depth (r.0.0 ∷ base) (model_named models r.0.1.model) path r.2 in
      (i.0 ++ r.0.0 ∷ [], i.1 ∙ sym (append_assoc i.0 (r.0.0 ∷ []) base))

  pub walk_distinct : (depth : ℕ) (base : List ℕ) (over : Option Model) → Distinct (instances_below models depth base over)
  walk_distinct zero base over = tt
  walk_distinct (suc depth) base None = tt
  walk_distinct (suc depth) base (Some m) = (
    λ h.
        let r = flat_map_in (λ at. instances_below models depth (at.0 ∷ base) (model_named models at.1.model)) (enumerate_from 0 (use_lines m)) base h in
        let i = ends depth (r.0.0 ∷ base) (model_named models r.0.1.model) base r.2 in
        let l : length base ≡ length (i.0 ++ r.0.0 ∷ base) = ap length i.1 in
        let k = length-append i.0 (r.0.0 ∷ base) in
        omega arith,
    distinct_numbered (λ at. instances_below models depth (at.0 ∷ base) (model_named models at.1.model))
        (λ a b p i j.
        let x = ends depth (a.0 ∷ base) (model_named models a.1.model) p i in
        let y = ends depth (b.0 ∷ base) (model_named models b.1.model) p j in
        let same : a.0 ∷ base ≡ b.0 ∷ base = same_end x.0 y.0 (a.0 ∷ base) (b.0 ∷ base) refl (sym x.1 ∙ y.1) in
        cc)
        (λ at. walk_distinct depth (at.0 ∷ base) (model_named models at.1.model))
        (enumerate_from 0 (use_lines m)) (numbers_once (use_lines m) 0),
  )

  own_path : (path : List ℕ) (p : InstanceSignal) → In (own_nets models path) p → (p.path ≡ path) × (is_bound models p.path p.signal ≡ false)
  own_path path p h =
      let r = map_in (λ s. record { path = path; signal = s }) (filter (λ s. not (is_bound models path s)) (had_by signals (model_at models path))) p h in
      let f = filter_in (λ s. not (is_bound models path s)) (had_by signals (model_at models path)) r.0 r.1 in
      let a : path ≡ p.path = ap (λ q. q.path) r.2 in
      let b : r.0 ≡ p.signal = ap (λ q. q.signal) r.2 in
      (sym a, subst (λ q. is_bound models q p.signal ≡ false) a (subst (λ s. is_bound models path s ≡ false) b (no (is_bound models path r.0) f.1)))
    where
      no : (b : Bool) → not b ≡ true → b ≡ false
      no true e = absurd (cc)
      no false e = refl

  nets_distinct : Distinct (nets models)
  nets_distinct =
      distinct_flat_map (λ path. own_nets models path) (λ a b p i j. sym (own_path a p i).0 ∙ (own_path b p j).0)
      (λ path. distinct_map (λ s. record { path = path; signal = s }) (λ a b e. ap (λ q. q.signal) e) (filter (λ s. not (is_bound models path s)) (had_by signals (model_at models path))) (distinct_filter (λ s. not (is_bound models path s)) (had_by signals (model_at models path)) (signals_distinct (model_at models path))))
      (instances models) (walk_distinct 65 [] (slice_get models 0))

  -- a net is made where it is
  pub net_home : (p : InstanceSignal) → In (nets models) p → home models p.path p.signal ≡ p
  net_home p h =
      let r = flat_map_in (λ path. own_nets models path) (instances models) p h in
      free p.path p.signal (own_path r.0 p r.2).1
    where
      free : (path signal : List ℕ) → is_bound models path signal ≡ false → home models path signal ≡ record { path = path; signal = signal }
      free [] signal e = refl
      free (n ∷ above) signal e = by (bound_to models above n signal) e
        where
          by : (o : Option (List ℕ)) → is_some o ≡ false → option_map_or (λ actual. home models above actual) o (record { path = n ∷ above; signal = signal }) ≡ record { path = n ∷ above; signal = signal }
          by None e = refl
          by (Some a) e = absurd (cc)

-- in a list without repeats the place of the k-th item is k
place_of : (xs : List InstanceSignal) → Distinct xs → (k : ℕ) (d : InstanceSignal) → k < length xs → position_or_len (λ x. is_same_signal (get_or xs k d) x) xs ≡ k
place_of [] distinct k d h = absurd (omega arith)
place_of (x ∷ xs) distinct zero d h = rw (signal_itself x) refl
place_of (x ∷ xs) distinct (suc k) d h = by (is_same_signal (get_or xs k d) x) refl (place_of xs distinct.1 k d (omega arith)) distinct.0 (in_at xs k d (omega arith))
  where
    by : (b : Bool) → is_same_signal (get_or xs k d) x ≡ b → position_or_len (λ y. is_same_signal (get_or xs k d) y) xs ≡ k → (In xs x → ⊥) → In xs (get_or xs k d) → cond (not b) (1 + position_or_len (λ y. is_same_signal (get_or xs k d) y) xs) 0 ≡ suc k
    by true e i fresh here = absurd (fresh (subst (λ y. In xs y) (signal_same (get_or xs k d) x e) here))
    by false e i fresh here = omega arith

pub number_of_net : (models : List Model) (k : ℕ) (d : InstanceSignal) → k < length (nets models) → position_or_len (λ net. is_same_signal (home models (get_or (nets models) k d).path (get_or (nets models) k d).signal) net) (nets models) ≡ k
number_of_net models k d h = ap (λ p. position_or_len (λ net. is_same_signal p net) (nets models)) (net_home models (get_or (nets models) k d) (in_at (nets models) k d h)) ∙ place_of (nets models) (nets_distinct models) k d h
