-- The number of nets and the size, from the weights of models and of uses.
use Rattle.std.proofs.Common.{◌≡◌, ◌<◌, ◌≤◌, ◌+◌, ◌-◌, ℕ, zero, suc, false, not, List, [], ◌∷◌, map, length, Option, None, Some, get_or, slice_get, min, arith, refl, sym, ap, ◌∙◌}
use Rattle.std.proofs.lemmas.Bool.{eqb-true, eq-eqb}
use Rattle.std.proofs.lemmas.List.{length-map}
use Rattle.std.specs.Prelude.{◌↔◌, IsTrue, bytes_eq, filter, filter_map, is_some, option_and_then, option_map, position}
use Rattle.std.specs.List.{enumerate_from}
use Rattle.blif_syntax.specs.declared.models.Item.{Item}
use Rattle.blif_syntax.specs.declared.models.Model.{Model}
use Rattle.hierarchy.specs.declared.fault.NetFault.TheVariants.{BadFormal}
use Rattle.hierarchy.specs.declared.weights.Measure.{Measure}
use Rattle.hierarchy.specs.declared.weights.Measure.TheVariants.{Nets, Size}
use Rattle.hierarchy.specs.Faults.{HasBadFormal, HasUnknownModel, IsFree, bad_formal, bad_formal_of, in_use}
use Rattle.hierarchy.specs.Instances.{actual_of, had_by, instances, instances_below, is_bound, model_at, model_named, model_names, number_named, use_at}
use Rattle.hierarchy.specs.Lines.{UseLine, formals_of, signals, use_lines, use_of}
use Rattle.hierarchy.specs.Nets.{own_nets}
use Rattle.hierarchy.specs.Reach.{Reaches, led_to, uses}
use Rattle.hierarchy.specs.Sizes.{words_of_signals}
use Rattle.hierarchy.specs.private.Counts.{at_number, kept_weight, measure_of, model_weight, sum_of, use_weight, uses_weight, weight_at, weight_below}
use Rattle.hierarchy.proofs.Bindings.{filter_same, own_count}
use Rattle.hierarchy.proofs.Free.{no_fault}
use Rattle.hierarchy.proofs.Levels.{end_found, known, model_of_path, place_of, step_at, uses_at}
use Rattle.hierarchy.proofs.Members.{In, filter_map_in, in_get, numbered_in}
use Rattle.hierarchy.proofs.Weighed.{below_capped, length_flat_map, min_add, min_twice, sum_by_is, sum_capped, sum_flat_map, sum_none, sum_numbered, sum_numbers, sum_plus, sum_same}

-- a value for each model, by number
map_at : {X : Type 0} (f : Model → X) (d : X) (models : List Model) (k : ℕ) (model : Model) → slice_get models k ≡ Some model → get_or (map f models) k d ≡ f model
map_at f d [] k model e = absurd (cc)
map_at f d (m ∷ models) zero model e = let same : m ≡ model = cc in ap f same
map_at f d (m ∷ models) (suc k) model e = map_at f d models k model e

map_capped : (cap : ℕ) (f g : Model → ℕ) (models : List Model) → ((model : Model) → min cap (f model) ≡ min cap (g model)) → (k : ℕ) → min cap (get_or (map f models) k 0) ≡ min cap (get_or (map g models) k 0)
map_capped cap f g [] each k = refl
map_capped cap f g (m ∷ models) each zero = each m
map_capped cap f g (m ∷ models) each (suc k) = map_capped cap f g models each k

module _ (models : List Model) (some : 0 < length models) (free : IsFree (HasUnknownModel models)) where
  -- the instance that a use of an instance makes
  pub record Below (path : List ℕ) (n : ℕ) (used : UseLine) : Type 0 where
    pub number : ℕ
    pub model : Model
    pub is : number_named models used.model ≡ Some number
    pub found : slice_get models number ≡ Some model
    pub ends : led_to (uses models) 0 (n ∷ path) ≡ Some number
    pub at : model_at models (n ∷ path) ≡ Some model
    pub named : model_named models used.model ≡ Some model

  pub below : (path : List ℕ) (k : ℕ) (model : Model) → led_to (uses models) 0 path ≡ Some k → slice_get models k ≡ Some model → (n : ℕ) (used : UseLine) → slice_get (use_lines model) n ≡ Some used → Below path n used
  below path k model is found n used at =
      let number = known models free k model used (path, is) found (in_get (use_lines model) n used at) in
      let ends : led_to (uses models) 0 (n ∷ path) ≡ Some number.0 =
      ap (option_and_then (λ m. slice_get (get_or (uses models) m []) n)) is
      ∙ step_at models free k n model (path, is) found
      ∙ ap (option_and_then (λ u. number_named models u.model)) at
      ∙ number.1 in
      let there = end_found models (n ∷ path) number.0 some ends in
      record {
        number = number.0;
        model = there.0;
        is = number.1;
        found = there.1;
        ends = ends;
        at = model_of_path models free (n ∷ path) ∙ ap (option_and_then (slice_get models)) ends ∙ there.1;
        named = ap (option_and_then (slice_get models)) number.1 ∙ there.1;
      }

  -- what instances weigh, where each but the top weighs what its use does
  module _ (weight : List ℕ → ℕ) (by_use : UseLine → ℕ) (own : List ℕ)
      (weighs : (path : List ℕ) (k : ℕ) (model : Model) → led_to (uses models) 0 path ≡ Some k → slice_get models k ≡ Some model → (n : ℕ) (used : UseLine) → slice_get (use_lines model) n ≡ Some used → weight (n ∷ path) ≡ by_use used)
      (owns : (k : ℕ) (model : Model) → slice_get models k ≡ Some model → get_or own k 0 ≡ sum_of by_use (use_lines model)) where
    pub total : (levels : ℕ) (path : List ℕ) (k : ℕ) (model : Model) → led_to (uses models) 0 path ≡ Some k → slice_get models k ≡ Some model → sum_of weight (instances_below models (suc levels) path (Some model)) ≡ weight path + weight_below (uses models) own levels k
    total zero path k model is found =
        let apart = sum_flat_map weight (λ at. instances_below models 0 (at.0 ∷ path) (model_named models at.1.model)) (enumerate_from 0 (use_lines model)) in
        let none = sum_none (enumerate_from 0 (use_lines model)) in
        omega arith
    total (suc levels) path k model is found = by (λ p j m e f. total levels p j m e f)
      where
        inner : ℕ × UseLine → List (List ℕ)
        inner at = instances_below models (suc levels) (at.0 ∷ path) (model_named models at.1.model)

        each_use : UseLine → ℕ
        each_use used = by_use used + at_number (weight_below (uses models) own levels) (number_named models used.model)

        one : ((p : List ℕ) (j : ℕ) (m : Model) → led_to (uses models) 0 p ≡ Some j → slice_get models j ≡ Some m → sum_of weight (instances_below models (suc levels) p (Some m)) ≡ weight p + weight_below (uses models) own levels j) → (at : ℕ × UseLine) → In (enumerate_from 0 (use_lines model)) at → sum_of weight (inner at) ≡ each_use at.1
        one again at h =
            let there = numbered_in (use_lines model) at h in
            let b = below path k model is found at.0 at.1 there in
            let here : sum_of weight (inner at) ≡ sum_of weight (instances_below models (suc levels) (at.0 ∷ path) (Some b.model)) = ap (λ m. sum_of weight (instances_below models (suc levels) (at.0 ∷ path) m)) b.named in
            let rest = again (at.0 ∷ path) b.number b.model b.ends b.found in
            let mine = weighs path k model is found at.0 at.1 there in
            let last : at_number (weight_below (uses models) own levels) (number_named models at.1.model) ≡ weight_below (uses models) own levels b.number = ap (at_number (weight_below (uses models) own levels)) b.is in
            omega arith

        by : ((p : List ℕ) (j : ℕ) (m : Model) → led_to (uses models) 0 p ≡ Some j → slice_get models j ≡ Some m → sum_of weight (instances_below models (suc levels) p (Some m)) ≡ weight p + weight_below (uses models) own levels j) → sum_of weight (instances_below models (suc (suc levels)) path (Some model)) ≡ weight path + weight_below (uses models) own (suc levels) k
        by again =
            let apart = sum_flat_map weight inner (enumerate_from 0 (use_lines model)) in
            let same = sum_same (λ at. sum_of weight (inner at)) (λ at. each_use at.1) (enumerate_from 0 (use_lines model)) (one again) in
            let plain = sum_numbered each_use 0 (use_lines model) in
            let two = sum_plus by_use (λ used. at_number (weight_below (uses models) own levels) (number_named models used.model)) (use_lines model) in
            let numbers = sum_numbers (weight_below (uses models) own levels) (λ used. number_named models used.model) (use_lines model) in
            let graph : sum_of (weight_below (uses models) own levels) (get_or (uses models) k []) ≡ sum_of (weight_below (uses models) own levels) (filter_map (λ used. number_named models used.model) (use_lines model)) = ap (sum_of (weight_below (uses models) own levels)) (uses_at models models k model found) in
            let mine = owns k model found in
            omega arith

  -- what an instance weighs
  abbrev path_weight : Measure → List ℕ → ℕ
  path_weight Nets path = length (own_nets models path)
  path_weight Size path = suc (length (had_by words_of_signals (model_at models path)))

  -- what a use weighs
  abbrev exact : Measure → UseLine → ℕ
  exact measure used = weight_at measure (map (model_weight measure) models) (model_names models) used

  module _ (bound : IsFree (HasBadFormal models)) where
    -- a use of a reachable model binds formals, each once
    no_bad : (k : ℕ) (model other : Model) (used : UseLine) → Reaches (uses models) 0 k → slice_get models k ≡ Some model → In (use_lines model) used → model_named models used.model ≡ Some other → bad_formal (formals_of other) [] (map (λ binding. binding.0) used.bindings) ≡ None
    no_bad k model other used reached found line named = by (bad_formal (formals_of other) [] (map (λ binding. binding.0) used.bindings)) refl
      where
        item : (i : Item) × In model.items i × (use_of i ≡ Some used)
        item = filter_map_in use_of model.items used line

        place : (p : ℕ) × (slice_get model.items p ≡ Some item.0)
        place = place_of model.items item.0 item.1

        by : (o : Option (List ℕ)) → bad_formal (formals_of other) [] (map (λ binding. binding.0) used.bindings) ≡ o → bad_formal (formals_of other) [] (map (λ binding. binding.0) used.bindings) ≡ None
        by None e = e
        by (Some name) e = absurd (no_fault models (λ number item fault. in_use (bad_formal_of models) item ≡ Some fault) bound k place.0 item.0 (BadFormal used.line name) (record { model = model; reached = reached; found = found; at = place.1 })
            (ap (option_and_then (bad_formal_of models)) item.2
            ∙ ap (option_and_then (λ m. option_map (λ n. BadFormal used.line n) (bad_formal (formals_of m) [] (map (λ binding. binding.0) used.bindings)))) named
            ∙ ap (option_map (λ n. BadFormal used.line n)) e))

    weighs : (measure : Measure) (path : List ℕ) (k : ℕ) (model : Model) → led_to (uses models) 0 path ≡ Some k → slice_get models k ≡ Some model → (n : ℕ) (used : UseLine) → slice_get (use_lines model) n ≡ Some used → path_weight measure (n ∷ path) ≡ exact measure used
    weighs Size path k model is found n used at =
        let b = below path k model is found n used at in
        ap (λ m. suc (length (had_by words_of_signals m))) b.at
        ∙ sym (map_at (model_weight Size) 0 models b.number b.model b.found)
        ∙ sym (ap (at_number (λ j. get_or (map (model_weight Size) models) j 0)) b.is)
    weighs Nets path k model is found n used at =
        let b = below path k model is found n used at in
        let here : model_at models path ≡ Some model = model_of_path models free path ∙ ap (option_and_then (slice_get models)) is ∙ found in
        let its : use_at (model_at models path) n ≡ Some used = ap (λ m. use_at m n) here ∙ at in
        length-map (filter (λ s. not (is_bound models (n ∷ path) s)) (had_by signals (model_at models (n ∷ path)))) (λ s. record { path = n ∷ path; signal = s })
        ∙ ap (λ m. length (filter (λ s. not (is_bound models (n ∷ path) s)) (had_by signals m))) b.at
        ∙ ap (λ l. length l) (filter_same (λ s. not (is_bound models (n ∷ path) s)) (λ s. not (is_some (actual_of used s))) (signals b.model) (λ s h. ap (λ u. not (is_some (option_and_then (λ w. actual_of w s) u))) its))
        ∙ own_count used b.model (no_bad k model b.model used (path, is) found (in_get (use_lines model) n used at) b.named)
        ∙ ap (λ w. w - length used.bindings) (sym (map_at (model_weight Nets) 0 models b.number b.model b.found))
        ∙ sym (ap (at_number (λ j. get_or (map (model_weight Nets) models) j 0 - length used.bindings)) b.is)

    -- what the top weighs
    top_weight : (measure : Measure) (model : Model) → slice_get models 0 ≡ Some model → path_weight measure [] ≡ get_or (map (model_weight measure) models) 0 0
    top_weight Size model found = ap (λ m. suc (length (had_by words_of_signals m))) found ∙ sym (map_at (model_weight Size) 0 models 0 model found)
    top_weight Nets model found =
        length-map (filter (λ s. not false) (had_by signals (slice_get models 0))) (λ s. record { path = []; signal = s })
        ∙ all (had_by signals (slice_get models 0))
        ∙ ap (λ m. length (had_by signals m)) found
        ∙ sym (map_at (model_weight Nets) 0 models 0 model found)
      where
        all : (xs : List (List ℕ)) → length (filter (λ s. not false) xs) ≡ length xs
        all [] = refl
        all (x ∷ xs) = let rest = all xs in omega arith

    -- the whole, as a sum over instances
    as_sum : (measure : Measure) → measure_of measure models ≡ sum_of (path_weight measure) (instances models)
    as_sum Nets = length_flat_map (λ path. own_nets models path) (instances models)
    as_sum Size = sum_by_is (λ path. suc (length (had_by words_of_signals (model_at models path)))) (instances models)

    pub whole : (measure : Measure) (model : Model) → slice_get models 0 ≡ Some model → measure_of measure models ≡ get_or (map (model_weight measure) models) 0 0 + weight_below (uses models) (map (uses_weight measure (map (model_weight measure) models) (model_names models)) models) 64 0
    whole measure model found =
        let own = map (uses_weight measure (map (model_weight measure) models) (model_names models)) models in
        let sum = as_sum measure in
        let first : sum_of (path_weight measure) (instances models) ≡ sum_of (path_weight measure) (instances_below models 65 [] (Some model)) = ap (λ m. sum_of (path_weight measure) (instances_below models 65 [] m)) found in
        let all = total (path_weight measure) (exact measure) own (weighs measure) (λ k m f. map_at (uses_weight measure (map (model_weight measure) models) (model_names models)) 0 models k m f) 64 [] 0 model refl found in
        let mine = top_weight measure model found in
        omega arith

-- a kept weight is exact up to the cap
kept_use : (measure : Measure) (cap : ℕ) (models : List Model) (used : UseLine) (k : ℕ) → min cap (use_weight measure (get_or (map (kept_weight measure cap) models) k 0) used) ≡ min cap (use_weight measure (get_or (map (model_weight measure) models) k 0) used)
kept_use Nets cap models used k = refl
kept_use Size cap models used k = map_capped cap (kept_weight Size cap) (model_weight Size) models (λ model. min_twice cap (model_weight Size model)) k

kept_model : (measure : Measure) (cap : ℕ) (models : List Model) → min cap (get_or (map (kept_weight measure cap) models) 0 0) ≡ min cap (get_or (map (model_weight measure) models) 0 0)
kept_model Nets cap models = refl
kept_model Size cap models = map_capped cap (kept_weight Size cap) (model_weight Size) models (λ model. min_twice cap (model_weight Size model)) 0

kept_uses : (measure : Measure) (cap : ℕ) (models : List Model) (names : List (List ℕ)) (model : Model) → min cap (min cap (uses_weight measure (map (kept_weight measure cap) models) names model)) ≡ min cap (uses_weight measure (map (model_weight measure) models) names model)
kept_uses measure cap models names model =
    min_twice cap (uses_weight measure (map (kept_weight measure cap) models) names model)
    ∙ sum_capped cap (weight_at measure (map (kept_weight measure cap) models) names) (weight_at measure (map (model_weight measure) models) names) (use_lines model) (λ used h. by used (position (bytes_eq used.model) names))
  where
    by : (used : UseLine) (o : Option ℕ) → min cap (at_number (λ k. use_weight measure (get_or (map (kept_weight measure cap) models) k 0) used) o) ≡ min cap (at_number (λ k. use_weight measure (get_or (map (model_weight measure) models) k 0) used) o)
    by used None = refl
    by used (Some k) = kept_use measure cap models used k

top_found : (models : List Model) → 0 < length models → (model : Model) × (slice_get models 0 ≡ Some model)
top_found [] h = absurd (omega arith)
top_found (model ∷ models) h = (model, refl)

-- the capped count of the code is that of the whole
pub count_is : (measure : Measure) (cap : ℕ) (models : List Model) (names : List (List ℕ)) (graph : List (List ℕ)) (weights own : List ℕ) (first count : ℕ) → 0 < length models → IsFree (HasUnknownModel models) → IsFree (HasBadFormal models) → names ≡ model_names models → graph ≡ uses models → weights ≡ map (kept_weight measure cap) models → own ≡ map (λ model. min cap (uses_weight measure weights names model)) models → first ≡ get_or weights 0 first → count ≡ min cap (weight_below graph own 64 0) → min cap (first + count) ≡ min cap (measure_of measure models)
count_is measure cap models names graph weights own first count some free bound all edges kept mine at counted =
    let top = top_found models some in
    let exact_weights = map (model_weight measure) models in
    let exact_own = map (uses_weight measure exact_weights (model_names models)) models in
    let whole_is : measure_of measure models ≡ get_or exact_weights 0 0 + weight_below (uses models) exact_own 64 0 = whole models some free bound measure top.0 top.1 in
    let first_is : first ≡ kept_weight measure cap top.0 = at ∙ ap (λ ws. get_or ws 0 first) kept ∙ map_at (kept_weight measure cap) first models 0 top.0 top.1 in
    let one : min cap first ≡ min cap (get_or exact_weights 0 0) = ap (min cap) (first_is ∙ sym (map_at (kept_weight measure cap) 0 models 0 top.0 top.1)) ∙ kept_model measure cap models in
    let own_is : own ≡ map (λ model. min cap (uses_weight measure (map (kept_weight measure cap) models) (model_names models) model)) models = mine ∙ ap (λ ws. map (λ model. min cap (uses_weight measure ws names model)) models) kept ∙ ap (λ ns. map (λ model. min cap (uses_weight measure (map (kept_weight measure cap) models) ns model)) models) all in
    let two : min cap count ≡ min cap (weight_below (uses models) exact_own 64 0) =
    ap (min cap) counted
    ∙ min_twice cap (weight_below graph own 64 0)
    ∙ ap (λ g. min cap (weight_below g own 64 0)) edges
    ∙ ap (λ o. min cap (weight_below (uses models) o 64 0)) own_is
    ∙ below_capped (uses models) (map (λ model. min cap (uses_weight measure (map (kept_weight measure cap) models) (model_names models) model)) models) exact_own cap
    (λ k. map_capped cap (λ model. min cap (uses_weight measure (map (kept_weight measure cap) models) (model_names models) model)) (uses_weight measure exact_weights (model_names models)) models (kept_uses measure cap models (model_names models)) k) 64 0 in
    min_add cap first (get_or exact_weights 0 0) count (weight_below (uses models) exact_own 64 0) one two ∙ ap (min cap) (sym whole_is)

-- a capped count that is the cap
pub reaches_is : (cap count other whole : ℕ) → count ≡ min cap other → min cap other ≡ min cap whole → IsTrue (lib.Dec.eqb count cap) ↔ (cap ≤ whole)
reaches_is cap count other whole is same = (λ h. let e = eqb-true count cap h in omega arith, λ h. eq-eqb count cap (omega arith))
