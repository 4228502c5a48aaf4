-- Where no use binds a bad formal, an instance has as many nets of its own as its model has signals, less its bindings.
use Rattle.std.proofs.Common.{◌≡◌, ◌+◌, ◌-◌, ℕ, suc, Bool, true, false, not, ◌||◌, cond, List, [], ◌∷◌, ◌++◌, map, length, None, Some, arith, refl, sym, ap, ◌∙◌, inl, inr, subst}
use Rattle.std.specs.Prelude.{⊤, bytes_eq, filter, find, flat_map, is_some, option_map, if◌then◌else◌}
use Rattle.std.specs.List.{list_any}
use Rattle.std.proofs.lemmas.Slice.Eq.{bytes_eq-Decides}
use Rattle.indexmap.specs.IndexSet.{insert_key, insert_all}
use Rattle.blif_syntax.specs.declared.models.What.{What}
use Rattle.blif_syntax.specs.declared.models.What.TheVariants.{Inputs, Outputs, Clock, Names, Latch, Subckt}
use Rattle.blif_syntax.specs.declared.models.Model.{Model}
use Rattle.blif_syntax.specs.Words.{is_one_of}
use Rattle.hierarchy.specs.Faults.{bad_formal}
use Rattle.hierarchy.specs.Instances.{actual_of}
use Rattle.hierarchy.specs.Lines.{UseLine, formal_words, formals_of, signal_words, signals}
use Rattle.hierarchy.proofs.Members.{In, append_cases, flat_map_in, in_flat_map}
use Rattle.hierarchy.proofs.Sets.{in_one_of, in_set, insert_new, insert_old, one_of_in, set_in}

-- each element stands once
abbrev pub Distinct : {X : Type 0} → List X → Type 0
Distinct [] = ⊤
Distinct (x ∷ xs) = (In xs x → ⊥) × Distinct xs

distinct_push : (xs : List (List ℕ)) (x : List ℕ) → Distinct xs → (In xs x → ⊥) → Distinct (xs ++ x ∷ [])
distinct_push [] x d new = (λ h. h, tt)
distinct_push (y ∷ xs) x d new = (by, distinct_push xs x d.1 (λ h. new (inr h)))
  where
    by : In (xs ++ x ∷ []) y → ⊥
    by h = elim (append_cases xs (x ∷ []) y h) as (λ _. ⊥) [ inl old ↦ d.0 old | inr last ↦ elim last as (λ _. ⊥) [ inl same ↦ new (inl (sym same)) | inr none ↦ none ] ]

insert_distinct : (keys : List (List ℕ)) (name : List ℕ) → Distinct keys → Distinct (insert_key bytes_eq keys name)
insert_distinct keys name d = by (list_any (bytes_eq name) keys) refl
  where
    by : (b : Bool) → list_any (bytes_eq name) keys ≡ b → Distinct (cond b keys (keys ++ name ∷ []))
    by true e = d
    by false e = distinct_push keys name d (λ h. let yes = in_one_of keys name h in absurd (cc))

pub set_distinct : (names keys : List (List ℕ)) → Distinct keys → Distinct (insert_all bytes_eq keys names)
set_distinct [] keys d = d
set_distinct (name ∷ names) keys d = set_distinct names (insert_key bytes_eq keys name) (insert_distinct keys name d)

pub signals_distinct : (model : Model) → Distinct (signals model)
signals_distinct model = set_distinct (flat_map (λ item. signal_words item.what) model.items) [] tt

-- a formal of a model is a signal of it
formal_is_signal : (what : What) (x : List ℕ) → In (formal_words what) x → In (signal_words what) x
formal_is_signal (Inputs names) x h = h
formal_is_signal (Outputs names) x h = h
formal_is_signal (Clock names) x h = h
formal_is_signal (Names inputs output cover) x h = absurd h
formal_is_signal (Latch input output kind control init) x h = absurd h
formal_is_signal (Subckt model formals) x h = absurd h

pub formals_in_signals : (model : Model) (x : List ℕ) → In (formals_of model) x → In (signals model) x
formals_in_signals model x h = elim (set_in (flat_map (λ item. formal_words item.what) model.items) [] x h) as (λ _. In (signals model) x) [
  | inl none ↦ absurd none
  | inr word ↦
      let r = flat_map_in (λ item. formal_words item.what) model.items x word in
      in_set (flat_map (λ item. signal_words item.what) model.items) [] x (in_flat_map (λ item. signal_words item.what) model.items r.0 x r.1 (formal_is_signal r.0.what x r.2))
]

-- names without a bad formal stand once, and are formals that are not bound yet
pub sound_names : (formals bound names : List (List ℕ)) → bad_formal formals bound names ≡ None → Distinct names × ((x : List ℕ) → In names x → In formals x × (In bound x → ⊥))
sound_names formals bound [] e = (tt, λ x h. absurd h)
sound_names formals bound (name ∷ names) e = by (is_one_of formals name) (is_one_of bound name) refl refl e (sound_names formals (insert_key bytes_eq bound name) names)
  where
    by : (formal old : Bool) → is_one_of formals name ≡ formal → is_one_of bound name ≡ old → (if not formal || old then Some name else bad_formal formals (insert_key bytes_eq bound name) names) ≡ None → (bad_formal formals (insert_key bytes_eq bound name) names ≡ None → Distinct names × ((x : List ℕ) → In names x → In formals x × (In (insert_key bytes_eq bound name) x → ⊥))) → Distinct (name ∷ names) × ((x : List ℕ) → In (name ∷ names) x → In formals x × (In bound x → ⊥))
    by false old is was e again = absurd (cc)
    by true true is was e again = absurd (cc)
    by true false is was e again =
        let rest = again e in
        ((λ h. (rest.1 name h).1 (insert_new bound name), rest.0), λ x h. each x h rest.1)
      where
        each : (x : List ℕ) → In (name ∷ names) x → ((y : List ℕ) → In names y → In formals y × (In (insert_key bytes_eq bound name) y → ⊥)) → In formals x × (In bound x → ⊥)
        each x (inl same) rest = (subst (λ y. In formals y) same (one_of_in formals name is), λ h. let yes = in_one_of bound name (subst (λ y. In bound y) (sym same) h) in absurd (cc))
        each x (inr h) rest = let r = rest x h in (r.0, λ i. r.1 (insert_old bound name x i))

-- ---- counting
module _ {X : Type 0} where
  pub filter_same : (p q : X → Bool) (xs : List X) → ((x : X) → In xs x → p x ≡ q x) → filter p xs ≡ filter q xs
  filter_same p q [] each = refl
  filter_same p q (x ∷ xs) each = let here = each x (inl refl) in let rest = filter_same p q xs (λ y h. each y (inr h)) in rw (here, rest) refl

  filter_all : (xs : List X) → length (filter (λ x. true) xs) ≡ length xs
  filter_all [] = refl
  filter_all (x ∷ xs) = let rest = filter_all xs in omega arith

differs : (x y : List ℕ) → (x ≡ y → ⊥) → bytes_eq x y ≡ false
differs x y h = by (bytes_eq x y) refl
  where
    by : (b : Bool) → bytes_eq x y ≡ b → bytes_eq x y ≡ false
    by true e = absurd (h ((bytes_eq-Decides x y).0 e))
    by false e = e

-- one word that stands once, and that the test does not pass, taken away
one_less : (t : List ℕ → Bool) (x : List ℕ) (words : List (List ℕ)) → Distinct words → In words x → t x ≡ false → length (filter (λ s. not (bytes_eq x s || t s)) words) + 1 ≡ length (filter (λ s. not (t s)) words)
one_less t x [] d h e = absurd h
one_less t x (y ∷ words) d (inl same) e =
    let here : bytes_eq x y ≡ true = (bytes_eq-Decides x y).1 (sym same) in
    let keeps : t y ≡ false = ap t same ∙ e in
    let rest : filter (λ s. not (bytes_eq x s || t s)) words ≡ filter (λ s. not (t s)) words = filter_same (λ s. not (bytes_eq x s || t s)) (λ s. not (t s)) words (λ s h. let no = differs x s (λ q. d.0 (subst (λ w. In words w) (sym q ∙ sym same) h)) in ap (λ b. not (b || t s)) no) in
    let one : length (filter (λ s. not (bytes_eq x s || t s)) (y ∷ words)) ≡ length (filter (λ s. not (bytes_eq x s || t s)) words) = ap (λ b. length (cond (not (b || t y)) (y ∷ filter (λ s. not (bytes_eq x s || t s)) words) (filter (λ s. not (bytes_eq x s || t s)) words))) here in
    let other : length (filter (λ s. not (t s)) (y ∷ words)) ≡ suc (length (filter (λ s. not (t s)) words)) = ap (λ b. length (cond (not b) (y ∷ filter (λ s. not (t s)) words) (filter (λ s. not (t s)) words))) keeps in
    let long = ap (λ l. length l) rest in
    omega arith
one_less t x (y ∷ words) d (inr h) e =
    let apart : bytes_eq x y ≡ false = differs x y (λ q. d.0 (subst (λ w. In words w) q h)) in
    let one : length (filter (λ s. not (bytes_eq x s || t s)) (y ∷ words)) ≡ length (cond (not (t y)) (y ∷ filter (λ s. not (bytes_eq x s || t s)) words) (filter (λ s. not (bytes_eq x s || t s)) words)) = ap (λ b. length (cond (not (b || t y)) (y ∷ filter (λ s. not (bytes_eq x s || t s)) words) (filter (λ s. not (bytes_eq x s || t s)) words))) apart in
    let both = by (t y) (filter (λ s. not (bytes_eq x s || t s)) words) (filter (λ s. not (t s)) words) (one_less t x words d.1 h e) in
    omega arith
  where
    by : (b : Bool) (us vs : List (List ℕ)) → length us + 1 ≡ length vs → length (cond (not b) (y ∷ us) us) + 1 ≡ length (cond (not b) (y ∷ vs) vs)
    by true us vs e = e
    by false us vs e = omega arith

no_binding : (bindings : List (List ℕ × List ℕ)) (x : List ℕ) → (In (map (λ binding. binding.0) bindings) x → ⊥) → list_any (λ binding. bytes_eq binding.0 x) bindings ≡ false
no_binding [] x h = refl
no_binding (b ∷ bindings) x h =
    let here : bytes_eq b.0 x ≡ false = differs b.0 x (λ q. h (inl q)) in
    ap (λ c. c || list_any (λ binding. bytes_eq binding.0 x) bindings) here ∙ no_binding bindings x (λ i. h (inr i))

-- the words that no binding binds, and the bindings
pub unbound_words : (bindings : List (List ℕ × List ℕ)) (words : List (List ℕ)) → Distinct words → Distinct (map (λ binding. binding.0) bindings) → ((x : List ℕ) → In (map (λ binding. binding.0) bindings) x → In words x) → length (filter (λ s. not (list_any (λ binding. bytes_eq binding.0 s) bindings)) words) + length bindings ≡ length words
unbound_words [] words d e among = let all = filter_all words in omega arith
unbound_words (b ∷ bindings) words d e among =
    let one = one_less (λ s. list_any (λ binding. bytes_eq binding.0 s) bindings) b.0 words d (among b.0 (inl refl)) (no_binding bindings b.0 e.0) in
    let rest = unbound_words bindings words d e.1 (λ x h. among x (inr h)) in
    omega arith

-- a signal is bound where some binding binds it
pub bound_by : (used : UseLine) (x : List ℕ) → is_some (actual_of used x) ≡ list_any (λ binding. bytes_eq binding.0 x) used.bindings
bound_by used x = by used.bindings
  where
    by : (bindings : List (List ℕ × List ℕ)) → is_some (option_map (λ binding. binding.1) (find (λ binding. bytes_eq binding.0 x) bindings)) ≡ list_any (λ binding. bytes_eq binding.0 x) bindings
    by [] = refl
    by (b ∷ bindings) = on (bytes_eq b.0 x) (by bindings)
      where
        on : (c : Bool) → is_some (option_map (λ binding. binding.1) (find (λ binding. bytes_eq binding.0 x) bindings)) ≡ list_any (λ binding. bytes_eq binding.0 x) bindings → is_some (option_map (λ binding. binding.1) (cond c (Some b) (find (λ binding. bytes_eq binding.0 x) bindings))) ≡ (c || list_any (λ binding. bytes_eq binding.0 x) bindings)
        on true e = refl
        on false e = e

-- the words of a model that a use of it leaves unbound
pub own_count : (used : UseLine) (model : Model) → bad_formal (formals_of model) [] (map (λ binding. binding.0) used.bindings) ≡ None → length (filter (λ s. not (is_some (actual_of used s))) (signals model)) ≡ length (signals model) - length used.bindings
own_count used model none =
    let sound = sound_names (formals_of model) [] (map (λ binding. binding.0) used.bindings) none in
    let count = unbound_words used.bindings (signals model) (signals_distinct model) sound.0 (λ x h. formals_in_signals model x (sound.1 x h).0) in
    let same = ap (λ l. length l) (filter_same (λ s. not (is_some (actual_of used s))) (λ s. not (list_any (λ binding. bytes_eq binding.0 s) used.bindings)) (signals model) (λ s h. ap not (bound_by used s))) in
    omega arith
