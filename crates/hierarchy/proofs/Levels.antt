-- Instances by models as numbers; and that a hierarchy is too deep just where 65 steps lead on from the top.
use Rattle.std.proofs.Common.{◌≡◌, ◌<◌, ℕ, zero, suc, Bool, true, false, ◌||◌, List, [], ◌∷◌, ◌++◌, map, length, length-append, Option, None, Some, get_or, slice_get, arith, refl, sym, ap, ◌∙◌, inl, inr, subst, true≢false}
use Rattle.std.proofs.lemmas.List.{length-map}
use Rattle.std.specs.Prelude.{if◌then◌else◌, filter_map, is_some, option_and_then, position, bytes_eq}
use Rattle.std.specs.List.{cons_option, list_any}
use Rattle.blif_syntax.specs.declared.models.Item.{Item}
use Rattle.blif_syntax.specs.declared.models.Model.{Model}
use Rattle.hierarchy.specs.declared.fault.NetFault.TheVariants.{TooDeep, UnknownModel}
use Rattle.hierarchy.specs.Faults.{HasTooDeep, HasUnknownModel, IsFree, in_use, unknown_model}
use Rattle.hierarchy.specs.Instances.{model_at, model_named, model_names, number_named, use_at}
use Rattle.hierarchy.specs.Lines.{UseLine, use_lines, use_of}
use Rattle.hierarchy.specs.Reach.{Reaches, led_to, used_by, uses}
use Rattle.hierarchy.specs.private.Depth.{has_steps}
use Rattle.hierarchy.proofs.Deep.{fewer_steps, joined, steps_on}
use Rattle.hierarchy.proofs.Free.{no_fault}
use Rattle.hierarchy.proofs.Members.{In, contains_from_in, filter_map_in, in_get}
use Rattle.hierarchy.proofs.Refused.{uses_low}

-- an element has a place
pub place_of : {X : Type 0} (xs : List X) (x : X) → In xs x → (place : ℕ) × (slice_get xs place ≡ Some x)
place_of [] x h = absurd h
place_of (y ∷ xs) x (inl e) = (0, ap Some e)
place_of (y ∷ xs) x (inr h) = let r = place_of xs x h in (suc r.0, r.1)

-- where a function gives a value at each element, those values have the elements' places
pub filter_map_at : {X Y : Type 0} (f : X → Option Y) (xs : List X) → ((x : X) → In xs x → (y : Y) × (f x ≡ Some y)) → (n : ℕ) → slice_get (filter_map f xs) n ≡ option_and_then f (slice_get xs n)
filter_map_at f [] each n = refl
filter_map_at f (x ∷ xs) each n =
    let here = each x (inl refl) in
    subst (λ r. slice_get (cons_option r (filter_map f xs)) n ≡ option_and_then f (slice_get (x ∷ xs) n)) (sym here.1) (by n here.0 here.1 (λ m. filter_map_at f xs (λ y h. each y (inr h)) m))
  where
    by : (n : ℕ) (y : _) → f x ≡ Some y → ((m : ℕ) → slice_get (filter_map f xs) m ≡ option_and_then f (slice_get xs m)) → slice_get (y ∷ filter_map f xs) n ≡ option_and_then f (slice_get (x ∷ xs) n)
    by zero y e again = sym e
    by (suc m) y e again = again m

-- what a model uses, by number
pub uses_at : (models ms : List Model) (n : ℕ) (model : Model) → slice_get ms n ≡ Some model → get_or (map (used_by models) ms) n [] ≡ used_by models model
uses_at models [] n model e = absurd (cc)
uses_at models (m ∷ ms) zero model e = let same : m ≡ model = cc in ap (used_by models) same
uses_at models (m ∷ ms) (suc n) model e = uses_at models ms n model e

uses_none : (models ms : List Model) (n : ℕ) → slice_get ms n ≡ None → get_or (map (used_by models) ms) n [] ≡ []
uses_none models [] n e = refl
uses_none models (m ∷ ms) zero e = absurd (cc)
uses_none models (m ∷ ms) (suc n) e = uses_none models ms n e

found_below : {X : Type 0} (xs : List X) (n : ℕ) → n < length xs → (x : X) × (slice_get xs n ≡ Some x)
found_below [] n h = absurd (omega arith)
found_below (x ∷ xs) zero h = (x, refl)
found_below (x ∷ xs) (suc n) h = found_below xs n (omega arith)

module _ (models : List Model) (free : IsFree (HasUnknownModel models)) where
  -- a use of a reachable model names a model
  pub known : (n : ℕ) (model : Model) (used : UseLine) → Reaches (uses models) 0 n → slice_get models n ≡ Some model → In (use_lines model) used → (k : ℕ) × (number_named models used.model ≡ Some k)
  known n model used reached found line = by (number_named models used.model) refl
    where
      item : (i : Item) × In model.items i × (use_of i ≡ Some used)
      item = filter_map_in use_of model.items used line

      place : (p : ℕ) × (slice_get model.items p ≡ Some item.0)
      place = place_of model.items item.0 item.1

      by : (o : Option ℕ) → number_named models used.model ≡ o → (k : ℕ) × (number_named models used.model ≡ Some k)
      by (Some k) e = (k, e)
      by None e = absurd (no_fault models (λ number item fault. in_use (unknown_model (model_names models)) item ≡ Some fault) free n place.0 item.0 (UnknownModel used.line used.model) (record { model = model; reached = reached; found = found; at = place.1 })
          (ap (option_and_then (unknown_model (model_names models))) item.2 ∙ none (position (bytes_eq used.model) (model_names models)) e))
        where
          none : (o : Option ℕ) → o ≡ None → (if is_some o then None else Some (UnknownModel used.line used.model)) ≡ Some (UnknownModel used.line used.model)
          none None e = refl
          none (Some k) e = absurd (cc)

  -- one step on, among models as numbers
  pub step_at : (k n : ℕ) (model : Model) → Reaches (uses models) 0 k → slice_get models k ≡ Some model → slice_get (get_or (uses models) k []) n ≡ option_and_then (λ used. number_named models used.model) (slice_get (use_lines model) n)
  step_at k n model reached found =
      ap (λ us. slice_get us n) (uses_at models models k model found)
      ∙ filter_map_at (λ used. number_named models used.model) (use_lines model) (λ used line. known k model used reached found line) n

  -- the model of an instance is that of the number to which its path leads
  pub model_of_path : (path : List ℕ) → model_at models path ≡ option_and_then (slice_get models) (led_to (uses models) 0 path)
  model_of_path [] = refl
  model_of_path (n ∷ above) = by (led_to (uses models) 0 above) refl (model_of_path above)
    where
      named : (o : Option UseLine) → option_and_then (λ used. model_named models used.model) o ≡ option_and_then (slice_get models) (option_and_then (λ used. number_named models used.model) o)
      named None = refl
      named (Some used) = refl

      on : (k : ℕ) → led_to (uses models) 0 above ≡ Some k → (m : Option Model) → slice_get models k ≡ m → model_at models above ≡ m → model_at models (n ∷ above) ≡ option_and_then (slice_get models) (slice_get (get_or (uses models) k []) n)
      on k is None found here =
          ap (λ m. option_and_then (λ used. model_named models used.model) (use_at m n)) here
          ∙ sym (ap (λ us. option_and_then (slice_get models) (slice_get us n)) (uses_none models models k found))
      on k is (Some model) found here =
          ap (λ m. option_and_then (λ used. model_named models used.model) (use_at m n)) here
          ∙ named (slice_get (use_lines model) n)
          ∙ sym (ap (option_and_then (slice_get models)) (step_at k n model (above, is) found))

      by : (o : Option ℕ) → led_to (uses models) 0 above ≡ o → model_at models above ≡ option_and_then (slice_get models) o → model_at models (n ∷ above) ≡ option_and_then (slice_get models) (option_and_then (λ k. slice_get (get_or (uses models) k []) n) o)
      by None is here = ap (λ m. option_and_then (λ used. model_named models used.model) (use_at m n)) here
      by (Some k) is here = on k is (slice_get models k) refl here

-- steps lead to a model
pub end_found : (models : List Model) (path : List ℕ) (k : ℕ) → 0 < length models → led_to (uses models) 0 path ≡ Some k → (model : Model) × (slice_get models k ≡ Some model)
end_found models [] k some e = let same : 0 ≡ k = cc in subst (λ n. (model : Model) × (slice_get models n ≡ Some model)) same (found_below models 0 some)
end_found models (n ∷ above) k some e = by (led_to (uses models) 0 above) e
  where
    low : (m i : ℕ) (us : List ℕ) → us ≡ get_or (uses models) m [] → (found : In us k) → k < length models
    low m i us same found =
        let c = contains_from_in (get_or (uses models) m []) k (subst (λ l. In l k) same found) in
        let less : get_or (get_or (uses models) m []) c.0 k < length (uses models) = uses_low models m [] (within (uses models) m c.0 c.1) c.0 k c.1 in
        let is : get_or (get_or (uses models) m []) c.0 k ≡ k = c.2 in
        let l = length-map models (used_by models) in
        omega arith
      where
        within : (graph : List (List ℕ)) (m i : ℕ) → i < length (get_or graph m []) → m < length graph
        within [] m i h = absurd (omega arith)
        within (us ∷ graph) zero i h = omega arith
        within (us ∷ graph) (suc m) i h = let r = within graph m i h in omega arith

    by : (o : Option ℕ) → option_and_then (λ m. slice_get (get_or (uses models) m []) n) o ≡ Some k → (model : Model) × (slice_get models k ≡ Some model)
    by None e = absurd (cc)
    by (Some m) e = found_below models k (low m n (get_or (uses models) m []) refl (in_get (get_or (uses models) m []) n k e))

any_found : (p : ℕ → Bool) (xs : List ℕ) → list_any p xs ≡ true → (x : ℕ) × (place : ℕ) × (slice_get xs place ≡ Some x) × (p x ≡ true)
any_found p [] e = absurd (cc)
any_found p (x ∷ xs) e = by (p x) refl e (any_found p xs)
  where
    by : (b : Bool) → p x ≡ b → (b || list_any p xs) ≡ true → (list_any p xs ≡ true → (y : ℕ) × (place : ℕ) × (slice_get xs place ≡ Some y) × (p y ≡ true)) → (y : ℕ) × (place : ℕ) × (slice_get (x ∷ xs) place ≡ Some y) × (p y ≡ true)
    by true is e again = (x, 0, refl, is)
    by false is e again = let r = again e in (r.0, suc r.1, r.2, r.3)

-- where so many steps lead on from a model there are such
steps_from : (graph : List (List ℕ)) (n k : ℕ) → has_steps graph n k ≡ true → (path : List ℕ) × (to : ℕ) × (length path ≡ n) × (led_to graph k path ≡ Some to)
steps_from graph zero k e = ([], k, refl, refl)
steps_from graph (suc n) k e =
    let first = any_found (has_steps graph n) (get_or graph k []) e in
    let rest = steps_from graph n first.0 first.3 in
    let l = length-append rest.0 (first.1 ∷ []) in
    let long : length rest.0 ≡ n = rest.2 in
    (rest.0 ++ first.1 ∷ [], rest.1, omega arith, joined graph k first.0 rest.1 (first.1 ∷ []) rest.0 first.2 rest.3)

pub deep_is : (models : List Model) → 0 < length models → IsFree (HasUnknownModel models) → has_steps (uses models) 65 0 ≡ true → HasTooDeep models TooDeep
deep_is models some free e =
    let steps = steps_from (uses models) 65 0 e in
    let model = end_found models steps.0 steps.1 some steps.3 in
    let long : length steps.0 ≡ 65 = steps.2 in (
      record {
        path = steps.0;
        model = model.0;
        instance = model_of_path models free steps.0 ∙ ap (option_and_then (slice_get models)) steps.3 ∙ model.1;
        deep = omega arith;
      },
      refl,
    )

pub shallow_is : (models : List Model) → IsFree (HasUnknownModel models) → has_steps (uses models) 65 0 ≡ false → IsFree (HasTooDeep models)
shallow_is models free short fault h = by (led_to (uses models) 0 h.0.path) refl (sym (model_of_path models free h.0.path) ∙ h.0.instance)
  where
    by : (o : Option ℕ) → led_to (uses models) 0 h.0.path ≡ o → option_and_then (slice_get models) o ≡ Some h.0.model → ⊥
    by None is e = absurd (cc)
    by (Some k) is e =
        let deep = h.0.deep in
        let all = steps_on (uses models) 0 h.0.path k 0 (length h.0.path) is refl (omega arith) in
        let some = fewer_steps (uses models) 65 (length h.0.path) 0 (omega arith) all in
        true≢false (sym some ∙ short)
