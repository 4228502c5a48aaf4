-- The instances_below meets every instance.
use Rattle.std.proofs.Common.{◌≡◌, ℕ, zero, suc, ◌+◌, ◌<◌, List, [], ◌∷◌, length, Option, None, Some, slice_get, arith, refl, sym, ap, ◌∙◌, subst}
use Rattle.std.specs.Prelude.{option_and_then}
use Rattle.std.specs.List.{enumerate_from}
use mathlib.Core.Logic.{inl, inr}
use Rattle.blif_syntax.specs.declared.models.Model.{Model}
use Rattle.hierarchy.specs.Lines.{UseLine, use_lines}
use Rattle.hierarchy.specs.Instances.{model_named, use_at, model_at, instances_below}
use Rattle.hierarchy.proofs.Members.{In, in_flat_map, flat_map_in, in_numbered, numbered_in}

-- what a path with a model depends on
pub stands_on : (models : List Model) (over : Option Model) (n : ℕ) (model : Model) → option_and_then (λ used. model_named models used.model) (use_at over n) ≡ Some model → (above : Model) × (used : UseLine) × (over ≡ Some above) × (slice_get (use_lines above) n ≡ Some used) × (model_named models used.model ≡ Some model)
stands_on models None n model e = absurd (cc)
stands_on models (Some above) n model e = by (slice_get (use_lines above) n) refl e
  where
    by : (r : Option UseLine) → slice_get (use_lines above) n ≡ r → option_and_then (λ used. model_named models used.model) r ≡ Some model → (above' : Model) × (used : UseLine) × (Some above ≡ Some above') × (slice_get (use_lines above') n ≡ Some used) × (model_named models used.model ≡ Some model)
    by None h e = absurd (cc)
    by (Some used) h e = (above, used, refl, h, e)

module _ (models : List Model) where
  -- the first of the instances below one is that one
  pub begins : (depth : ℕ) (base : List ℕ) (over : Option Model) (model : Model) → 0 < depth → over ≡ Some model → In (instances_below models depth base over) base
  begins zero base over model h e = absurd (omega arith)
  begins (suc depth) base None model h e = absurd (cc)
  begins (suc depth) base (Some m) model h e = inl refl

  -- with an instance, the instances below one have those right below it
  pub deeper : (depth : ℕ) (base : List ℕ) (over : Option Model) → model_at models base ≡ over → (path : List ℕ) → In (instances_below models depth base over) path → (n : ℕ) (model : Model) → model_at models (n ∷ path) ≡ Some model → length path + 1 < depth + length base → In (instances_below models depth base over) (n ∷ path)
  deeper zero base over is path here n model e short = absurd here
  deeper (suc depth) base None is path here n model e short = absurd here
  deeper (suc depth) base (Some m) is path (inl same) n model e short =
      let s = stands_on models (model_at models path) n model e in
      let mine : s.0 ≡ m = some_same s.0 m (sym s.2 ∙ ap (λ p. model_at models p) (sym same) ∙ is) in
      let at : slice_get (use_lines m) n ≡ Some s.1 = subst (λ a. slice_get (use_lines a) n ≡ Some s.1) mine s.3 in
      let long : length base ≡ length path = ap (λ p. length p) same in
      let first = begins depth (n ∷ base) (model_named models s.1.model) model (omega arith) s.4 in
      inr (in_flat_map (λ at. instances_below models depth (at.0 ∷ base) (model_named models at.1.model)) (enumerate_from 0 (use_lines m)) (n, s.1) (n ∷ path) (in_numbered (use_lines m) n s.1 at) (subst (λ p. In (instances_below models depth (n ∷ base) (model_named models s.1.model)) (n ∷ p)) same first))
    where
      some_same : (y x : Model) → Some y ≡ Some x → y ≡ x
      some_same y x e = cc
  deeper (suc depth) base (Some m) is path (inr here) n model e short =
      let r = flat_map_in (λ at. instances_below models depth (at.0 ∷ base) (model_named models at.1.model)) (enumerate_from 0 (use_lines m)) path here in
      let there : slice_get (use_lines m) r.0.0 ≡ Some r.0.1 = numbered_in (use_lines m) r.0 r.1 in
      let is' : model_at models (r.0.0 ∷ base) ≡ model_named models r.0.1.model = ap (λ o. option_and_then (λ used. model_named models used.model) (use_at o r.0.0)) is ∙ ap (λ o. option_and_then (λ used. model_named models used.model) o) there in
      inr (in_flat_map (λ at. instances_below models depth (at.0 ∷ base) (model_named models at.1.model)) (enumerate_from 0 (use_lines m)) r.0 (n ∷ path) r.1 (deeper depth (r.0.0 ∷ base) (model_named models r.0.1.model) is' path r.2 n model e (omega arith)))

  -- each path with a model that is short enough is met
  pub complete : (depth : ℕ) (path : List ℕ) (model : Model) → model_at models path ≡ Some model → length path < depth → In (instances_below models depth [] (slice_get models 0)) path
  complete depth [] model e short = begins depth [] (slice_get models 0) model (omega arith) e
  complete depth (n ∷ above) model e short =
      let s = stands_on models (model_at models above) n model e in
      deeper depth [] (slice_get models 0) refl above (complete depth above s.0 s.2 (omega arith)) n model e (omega arith)
