-- Where nets are made.
use Rattle.std.proofs.Common.{◌≡◌, ℕ, ◌<◌, ◌≤◌, Bool, true, false, not, ◌&&◌, ◌||◌, cond, List, [], ◌∷◌, ◌++◌, map, length, Option, None, Some, slice_get, get_or, arith, refl, sym, ap, ◌∙◌, subst, inl, inr}
use Rattle.std.specs.Prelude.{flat_map, filter, find, option_and_then, option_map, is_some, bytes_eq}
use Rattle.std.specs.List.{list_any}
use Rattle.std.specs.Option.{option_map_or}
use Rattle.std.proofs.lemmas.Slice.Eq.{bytes_eq-Decides}
use Rattle.indexmap.specs.IndexSet.{insert_key, insert_all}
use Rattle.blif_syntax.specs.declared.models.What.{What}
use Rattle.blif_syntax.specs.declared.models.What.TheVariants.{Inputs, Outputs, Clock, Names, Latch, Subckt}
use Rattle.blif_syntax.specs.declared.models.Item.{Item}
use Rattle.blif_syntax.specs.declared.models.Model.{Model}
use Rattle.hierarchy.specs.Lines.{UseLine, use_lines, use_of, signal_words, signals}
use Rattle.hierarchy.specs.Instances.{use_at, model_at, actual_of, bound_to, is_bound, had_by, instances}
use Rattle.hierarchy.specs.Nets.{InstanceSignal, is_same_signal, home, own_nets, nets, number_at}
use Rattle.hierarchy.specs.Sizes.{IsShallow}
use Rattle.hierarchy.specs.Runs.{IsHierarchicalRun}
use Rattle.hierarchy.proofs.Members.{In, in_append_left, in_append_right, in_flat_map, in_map, in_filter, filter_map_in, in_get, at_found}
use Rattle.hierarchy.proofs.Instances.{complete, stands_on}

-- the names of a list stand in it once each
in_insert_old : (keys : List (List ℕ)) (name x : List ℕ) → In keys x → In (insert_key bytes_eq keys name) x
in_insert_old keys name x h = by (list_any (bytes_eq name) keys)
  where
    by : (b : Bool) → In (cond b keys (keys ++ name ∷ [])) x
    by true = h
    by false = in_append_left keys (name ∷ []) x h

pub any_in : (name : List ℕ) (keys : List (List ℕ)) → list_any (bytes_eq name) keys ≡ true → In keys name
any_in name [] e = absurd (cc)
any_in name (k ∷ keys) e = by (any_in name keys) (bytes_eq name k) refl e
  where
    by : (list_any (bytes_eq name) keys ≡ true → In keys name) → (b : Bool) → bytes_eq name k ≡ b → (b || list_any (bytes_eq name) keys) ≡ true → In (k ∷ keys) name
    by again true h e = inl (sym ((bytes_eq-Decides name k).0 h))
    by again false h e = inr (again e)

in_insert_new : (keys : List (List ℕ)) (name : List ℕ) → In (insert_key bytes_eq keys name) name
in_insert_new keys name = by (list_any (bytes_eq name) keys) refl
  where
    by : (b : Bool) → list_any (bytes_eq name) keys ≡ b → In (cond b keys (keys ++ name ∷ [])) name
    by true e = any_in name keys e
    by false e = in_append_right keys (name ∷ []) name (inl refl)

in_insert_all_old : (names keys : List (List ℕ)) (x : List ℕ) → In keys x → In (insert_all bytes_eq keys names) x
in_insert_all_old [] keys x h = h
in_insert_all_old (name ∷ names) keys x h = in_insert_all_old names (insert_key bytes_eq keys name) x (in_insert_old keys name x h)

in_insert_all : (names keys : List (List ℕ)) (x : List ℕ) → In names x → In (insert_all bytes_eq keys names) x
in_insert_all [] keys x h = absurd h
in_insert_all (name ∷ names) keys x (inl e) = in_insert_all_old names (insert_key bytes_eq keys name) x (subst (λ y. In (insert_key bytes_eq keys name) y) e (in_insert_new keys name))
in_insert_all (name ∷ names) keys x (inr h) = in_insert_all names (insert_key bytes_eq keys name) x h

pub is_signal : (model : Model) (item : Item) (name : List ℕ) → In model.items item → In (signal_words item.what) name → In (signals model) name
is_signal model item name at word = in_insert_all (flat_map (λ i. signal_words i.what) model.items) [] name (in_flat_map (λ i. signal_words i.what) model.items item name at word)

find_in : {X : Type 0} (p : X → Bool) (xs : List X) (x : X) → find p xs ≡ Some x → In xs x
find_in p [] x e = absurd (cc)
find_in p (y ∷ ys) x e = by (find_in p ys x) (p y) e
  where
    by : (find p ys ≡ Some x → In ys x) → (b : Bool) → cond b (Some y) (find p ys) ≡ Some x → In (y ∷ ys) x
    by again true e = inl (cc)
    by again false e = inr (again e)

mapped : {X Y : Type 0} (f : X → Y) (o : Option X) (y : Y) → option_map f o ≡ Some y → (x : X) × (o ≡ Some x) × (f x ≡ y)
mapped f None y e = absurd (cc)
mapped f (Some x) y e = (x, refl, cc)

-- the line of a use of a model
use_line : (what : What) (line : ℕ) (used : UseLine) (x : List ℕ) → use_of (record { line = line; what = what }) ≡ Some used → In (map (λ b. b.1) used.bindings) x → In (signal_words what) x
use_line (Subckt model formals) line used x e h = let same : formals ≡ used.bindings = cc in subst (λ f. In (map (λ b. b.1) f) x) (sym same) h
use_line (Inputs _) line used x e h = absurd (cc)
use_line (Outputs _) line used x e h = absurd (cc)
use_line (Clock _) line used x e h = absurd (cc)
use_line (Names _ _ _) line used x e h = absurd (cc)
use_line (Latch _ _ _ _ _) line used x e h = absurd (cc)

pub actual_is_signal : (model : Model) (n : ℕ) (used : UseLine) (signal actual : List ℕ) → slice_get (use_lines model) n ≡ Some used → actual_of used signal ≡ Some actual → In (signals model) actual
actual_is_signal model n used signal actual at is =
    let line = filter_map_in use_of model.items used (in_get (use_lines model) n used at) in
    let bind = mapped (λ b. b.1) (find (λ b. bytes_eq b.0 signal) used.bindings) actual is in
    let among = find_in (λ b. bytes_eq b.0 signal) used.bindings bind.0 bind.1 in
    is_signal model line.0 actual line.1 (use_line line.0.what line.0.line used actual line.2 (subst (λ y. In (map (λ b. b.1) used.bindings) y) bind.2 (in_map (λ b. b.1) used.bindings bind.0 among)))

-- a bound formal's actual is a signal of the instance above
actual_is_above : (models : List Model) (over : Option Model) (above : Model) (n : ℕ) (used : UseLine) (signal actual : List ℕ) → over ≡ Some above → slice_get (use_lines above) n ≡ Some used → option_and_then (λ s. actual_of s signal) (use_at over n) ≡ Some actual → In (signals above) actual
actual_is_above models over above n used signal actual o at e =
    let here : option_and_then (λ s. actual_of s signal) (use_at over n) ≡ actual_of used signal = ap (λ w. option_and_then (λ s. actual_of s signal) (use_at w n)) o ∙ ap (λ w. option_and_then (λ s. actual_of s signal) w) at in
    actual_is_signal above n used signal actual at (sym here ∙ e)

module _ (models : List Model) where
  own : (path : List ℕ) (model : Model) (signal : List ℕ) → length path ≤ 64 → model_at models path ≡ Some model → In (signals model) signal → is_bound models path signal ≡ false → In (nets models) (record { path = path; signal = signal })
  own path model signal short e h free =
      let mine : In (had_by signals (model_at models path)) signal = subst (λ o. In (had_by signals o) signal) (sym e) h in
      in_flat_map (λ p. own_nets models p) (instances models) path (record { path = path; signal = signal }) (complete models 65 path model e (omega (arith, short))) (in_map (λ s. record { path = path; signal = s }) (filter (λ s. not (is_bound models path s)) (had_by signals (model_at models path))) signal (in_filter (λ s. not (is_bound models path s)) (had_by signals (model_at models path)) signal mine (ap not free)))

  -- the home of a signal of an instance whose path is short is a net
  pub short_home_is_net : (path : List ℕ) (model : Model) (signal : List ℕ) → length path ≤ 64 → model_at models path ≡ Some model → In (signals model) signal → In (nets models) (home models path signal)
  short_home_is_net [] model signal short e h = own [] model signal short e h refl
  short_home_is_net (n ∷ above) model signal short e h = by (λ m a. short_home_is_net above m a (omega (arith, short))) (bound_to models above n signal) refl
    where
      by : ((m : Model) (a : List ℕ) → model_at models above ≡ Some m → In (signals m) a → In (nets models) (home models above a)) → (o : Option (List ℕ)) → bound_to models above n signal ≡ o → In (nets models) (home models (n ∷ above) signal)
      by again None is = subst (λ p. In (nets models) p) (sym (ap (λ w. option_map_or (λ actual. home models above actual) w (record { path = n ∷ above; signal = signal })) is)) (own (n ∷ above) model signal short e h (ap is_some is))
      by again (Some actual) is =
          let s = stands_on models (model_at models above) n model e in
          subst (λ p. In (nets models) p) (sym (ap (λ w. option_map_or (λ actual. home models above actual) w (record { path = n ∷ above; signal = signal })) is))
          (again s.0 actual s.2 (actual_is_above models (model_at models above) s.0 n s.1 signal actual s.2 s.3 is))

module _ (models : List Model) (shallow : IsShallow models) where
  pub met : (path : List ℕ) (model : Model) → model_at models path ≡ Some model → In (instances models) path
  met path model e = let short : length path < 65 = let s = shallow path model e in omega arith in complete models 65 path model e short

  pub home_is_net : (path : List ℕ) (model : Model) (signal : List ℕ) → model_at models path ≡ Some model → In (signals model) signal → In (nets models) (home models path signal)
  home_is_net path model signal e h = short_home_is_net models path model signal (shallow path model e) e h

module _ (models : List Model) (n : ℕ) (run : List ℕ → List ℕ → ℕ → Bool) (is_run : IsHierarchicalRun models n run) (t : ℕ) (in_time : t < n) where
  pub home_bit : (path signal : List ℕ) → run (home models path signal).path (home models path signal).signal t ≡ run path signal t
  home_bit [] signal = refl
  home_bit (k ∷ above) signal = by (λ a. home_bit above a) (bound_to models above k signal) refl
    where
      by : ((a : List ℕ) → run (home models above a).path (home models above a).signal t ≡ run above a t) → (o : Option (List ℕ)) → bound_to models above k signal ≡ o → run (home models (k ∷ above) signal).path (home models (k ∷ above) signal).signal t ≡ run (k ∷ above) signal t
      by again None is = ap (λ w. let p = option_map_or (λ actual. home models above actual) w (record { path = k ∷ above; signal = signal }) in run p.path p.signal t) is
      by again (Some actual) is =
          ap (λ w. let p = option_map_or (λ actual. home models above actual) w (record { path = k ∷ above; signal = signal }) in run p.path p.signal t) is
          ∙ again actual
          ∙ sym (is_run.formals above k signal actual is t in_time)

pub signal_same : (a b : InstanceSignal) → is_same_signal a b ≡ true → a ≡ b
signal_same a b e = by (bytes_eq a.path b.path) refl e
  where
    by : (r : Bool) → bytes_eq a.path b.path ≡ r → (r && bytes_eq a.signal b.signal) ≡ true → a ≡ b
    by true p s = let x : a.path ≡ b.path = (bytes_eq-Decides a.path b.path).0 p in let y : a.signal ≡ b.signal = (bytes_eq-Decides a.signal b.signal).0 s in (λ i. record { path = x i; signal = y i })
    by false p s = absurd (cc)

pub signal_itself : (a : InstanceSignal) → is_same_signal a a ≡ true
signal_itself a = rw ((bytes_eq-Decides a.path a.path).1 refl, (bytes_eq-Decides a.signal a.signal).1 refl) refl

-- at the number of a signal's net stands that net
pub at_number : (models : List Model) → IsShallow models → (path : List ℕ) (model : Model) (signal : List ℕ) (d : InstanceSignal) → model_at models path ≡ Some model → In (signals model) signal → get_or (nets models) (number_at models path signal) d ≡ home models path signal
at_number models shallow path model signal d e h =
    let p = home models path signal in
    at_found (λ net. is_same_signal p net) p (signal_itself p) (λ net same. signal_same p net same) (nets models) d (home_is_net models shallow path model signal e h)
