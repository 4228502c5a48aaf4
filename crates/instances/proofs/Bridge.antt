-- The instances by models as numbers are those by models.
use Rattle.std.proofs.Common.{◌≡◌, ℕ, zero, suc, ◌+◌, ◌<◌, List, [], ◌∷◌, ◌++◌, length, Some, slice_get, get_or, refl, sym, ap, ◌∙◌, subst}
use Rattle.std.specs.Prelude.{filter_map, flat_map, option_and_then}
use Rattle.std.specs.List.{cons_option, enumerate_from}
use Rattle.blif_syntax.specs.declared.models.Model.{Model}
use Rattle.hierarchy.specs.Faults.{HasUnknownModel, IsFree}
use Rattle.hierarchy.specs.Lines.{UseLine, use_lines}
use Rattle.hierarchy.specs.Instances.{instances, instances_below, model_named, number_named}
use Rattle.hierarchy.specs.Reach.{Reaches, uses}
use Rattle.hierarchy.proofs.Levels.{end_found, known, model_of_path, step_at, uses_at}
use Rattle.hierarchy.proofs.Members.{in_get}
use Rattle.instances.specs.declared.table.Row.{Row}
use Rattle.instances.specs.Table.{IsTable, instances_on}
use Rattle.instances.specs.Numbers.{AreRows}
use Rattle.instances.proofs.Tabled.{get_below}

module _ (models : List Model) (some : 0 < length models) (free : IsFree (HasUnknownModel models)) where
  -- what a reachable model's use leads to
  next : (k n : ℕ) (model : Model) (used : UseLine) → Reaches (uses models) 0 k → slice_get models k ≡ Some model → slice_get (use_lines model) n ≡ Some used → (to : ℕ) × (number_named models used.model ≡ Some to) × Reaches (uses models) 0 to
  next k n model used reached found at =
      let to = known models free k model used reached found (in_get (use_lines model) n used at) in (
        to.0,
        to.1,
        (
          n ∷ reached.0,
          ap (λ o. option_and_then (λ m. slice_get (get_or (uses models) m []) n) o) reached.1
              ∙ step_at models free k n model reached found ∙ ap (λ o. option_and_then (λ u. number_named models u.model) o) at ∙ to.1,
        ),
      )

  below_is : (depth : ℕ) (path : List ℕ) (k : ℕ) (model : Model) → Reaches (uses models) 0 k → slice_get models k ≡ Some model → instances_on (uses models) depth path k ≡ instances_below models depth path (Some model)
  below_is zero path k model reached found = refl
  below_is (suc depth) path k model reached found =
      ap (λ l. path ∷ l)
      (ap (λ us. flat_map (λ at. instances_on (uses models) depth (at.0 ∷ path) at.1) (enumerate_from 0 us)) (uses_at models models k model found)
      ∙ go (λ p j m r f. below_is depth p j m r f) (use_lines model) 0 (λ i used at. next k i model used reached found at))
    where
      one : ((p : List ℕ) (j : ℕ) (m : Model) → Reaches (uses models) 0 j → slice_get models j ≡ Some m → instances_on (uses models) depth p j ≡ instances_below models depth p (Some m)) → (n : ℕ) (used : UseLine) → (to : ℕ) × (number_named models used.model ≡ Some to) × Reaches (uses models) 0 to → (us : List ℕ) (rest : List UseLine) →
          flat_map (λ at. instances_on (uses models) depth (at.0 ∷ path) at.1) (enumerate_from (n + 1) us) ≡ flat_map (λ at. instances_below models depth (at.0 ∷ path) (model_named models at.1.model)) (enumerate_from (n + 1) rest) →
          flat_map (λ at. instances_on (uses models) depth (at.0 ∷ path) at.1) (enumerate_from n (cons_option (number_named models used.model) us)) ≡ flat_map (λ at. instances_below models depth (at.0 ∷ path) (model_named models at.1.model)) (enumerate_from n (used ∷ rest))
      one deeper n used to us rest again =
          let model = end_found models to.2.0 to.0 some to.2.1 in
          let its : model_named models used.model ≡ Some model.0 = ap (λ o. option_and_then (slice_get models) o) to.1 ∙ model.1 in
          ap (λ o. flat_map (λ at. instances_on (uses models) depth (at.0 ∷ path) at.1) (enumerate_from n (cons_option o us))) to.1
          ∙ ap (λ l. l ++ flat_map (λ at. instances_on (uses models) depth (at.0 ∷ path) at.1) (enumerate_from (n + 1) us)) (deeper (n ∷ path) to.0 model.0 to.2 model.1 ∙ ap (λ m. instances_below models depth (n ∷ path) m) (sym its))
          ∙ ap (λ l. instances_below models depth (n ∷ path) (model_named models used.model) ++ l) again

      go : ((p : List ℕ) (j : ℕ) (m : Model) → Reaches (uses models) 0 j → slice_get models j ≡ Some m → instances_on (uses models) depth p j ≡ instances_below models depth p (Some m)) → (lines : List UseLine) (n : ℕ) → ((i : ℕ) (used : UseLine) → slice_get lines i ≡ Some used → (to : ℕ) × (number_named models used.model ≡ Some to) × Reaches (uses models) 0 to) →
          flat_map (λ at. instances_on (uses models) depth (at.0 ∷ path) at.1) (enumerate_from n (filter_map (λ used. number_named models used.model) lines)) ≡ flat_map (λ at. instances_below models depth (at.0 ∷ path) (model_named models at.1.model)) (enumerate_from n lines)
      go deeper [] n each = refl
      go deeper (used ∷ lines) n each = one deeper n used (each 0 used refl) (filter_map (λ u. number_named models u.model) lines) lines (go deeper lines (n + 1) (λ i u at. each (suc i) u at))

  pub instances_are : (depth : ℕ) → depth ≡ 65 → instances_on (uses models) depth [] 0 ≡ instances models
  instances_are depth e =
      let top = end_found models [] 0 some refl in
      below_is depth [] 0 top.0 ([], refl) top.1 ∙ ap (λ d. instances_below models d [] (Some top.0)) e ∙ ap (λ m. instances_below models 65 [] m) (sym top.1)

  -- a table by models as numbers is one of the instances
  pub rows_are : (rows : List Row) (depth : ℕ) → depth ≡ 65 → IsTable (uses models) rows (instances_on (uses models) depth [] 0) → AreRows models rows
  rows_are rows depth e t = table rows (subst (λ paths. IsTable (uses models) rows paths) (instances_are depth e) t)
    where
      table : (rows : List Row) → IsTable (uses models) rows (instances models) → AreRows models rows
      table rows t = record {
        long = t.long;
        fits = λ k row path here its.
            let f = t.fits k row path here its in
            let model = end_found models path row.model some f.model in
            record {
              model = model_of_path models free path ∙ ap (λ o. option_and_then (slice_get models) o) f.model;
              has = get_below models row.model model.0 model.1;
              link = f.link;
            };
      }

  pub rows_of : (graph : List (List ℕ)) (rows : List Row) (depth : ℕ) → depth ≡ 65 → graph ≡ uses models → IsTable graph rows (instances_on graph depth [] 0) → AreRows models rows
  rows_of graph rows depth e same t = rows_are rows depth e (subst (λ g. IsTable g rows (instances_on g depth [] 0)) same t)
