-- The instances in preorder.
use Rattle.std.proofs.Common.{◌≡◌, ℕ, zero, suc, ◌+◌, ◌<◌, List, [], ◌∷◌, ◌++◌, map, length, take, get_or, Some, slice_get, arith, refl, sym, ap, ◌∙◌, subst}
use Rattle.std.specs.Prelude.{option_map, slice_index_or}
use Rattle.std.specs.List.{AllZip}
use Rattle.std.proofs.lemmas.List.{take_more}
use Rattle.std.proofs.lemmas.Option.{slice_get-map}
use Rattle.net_core.specs.declared.cover.Cover.{Cover}
use Rattle.blif_syntax.specs.declared.models.Model.{Model}
use Rattle.hierarchy.specs.Lines.{signals}
use Rattle.hierarchy.specs.Instances.{instances, model_at}
use Rattle.instances.specs.declared.table.Row.{Row}
use Rattle.instances.specs.Numbers.{AreRows, numbers_in}
use Rattle.instances.proofs.Rows.{row_of, signals_of}
use Rattle.flat_net.specs.private.Passes.{CoversOf, Instance, IsFirstCover, IsInstance}

at_place : {X : Type 0} (xs : List X) (k : ℕ) (d : X) → k < length xs → slice_get xs k ≡ Some (get_or xs k d)
at_place [] k d h = absurd (omega arith)
at_place (x ∷ xs) zero d h = refl
at_place (x ∷ xs) (suc k) d h = at_place xs k d (omega arith)

one_some : {X : Type 0} {x y : X} → Some x ≡ Some y → x ≡ y
one_some e = cc

pair_at : {A B : Type 0} (R : A → B → Type 0) (xs : List A) (ys : List B) (k : ℕ) (x : A) (y : B) → AllZip R xs ys → slice_get xs k ≡ Some x → slice_get ys k ≡ Some y → R x y
pair_at R [] ys k x y z e f = absurd (cc)
pair_at R (a ∷ xs) [] k x y z e f = absurd z
pair_at R (a ∷ xs) (b ∷ ys) zero x y z e f = subst (λ v. R v y) (one_some e) (subst (λ w. R a w) (one_some f) z.0)
pair_at R (a ∷ xs) (b ∷ ys) (suc k) x y z e f = pair_at R xs ys k x y z.1 e f

pub pushed : {A B : Type 0} (R : A → B → Type 0) (xs : List A) (ys : List B) (x : A) (y : B) → AllZip R xs ys → R x y → AllZip R (xs ++ x ∷ []) (ys ++ y ∷ [])
pushed R [] [] x y z r = (r, tt)
pushed R [] (b ∷ ys) x y z r = absurd z
pushed R (a ∷ xs) [] x y z r = absurd z
pushed R (a ∷ xs) (b ∷ ys) x y z r = (z.0, pushed R xs ys x y z.1 r)

module _ {S : Type 0} (keys : S → List (List ℕ)) (models : List Model) (names : List S) (rows : List Row) (numbers : List (List ℕ)) (firsts : List ℕ) (k : ℕ) (d : Row)
    (known : map keys names ≡ map signals models) (table : AreRows models rows) (numbered : numbers ≡ map (λ path. numbers_in models path) (instances models)) (long : length firsts ≡ length rows)
    (low : k < length rows) (instance : Instance) (model : slice_get models (get_or rows k d).model ≡ Some instance.model)
    (its_names : instance.names ≡ slice_index_or (map keys names) (get_or rows k d).model [])
    (dn : List ℕ) (its_numbers : instance.numbers ≡ get_or numbers k dn) (df : ℕ) (cover : instance.cover ≡ get_or firsts k df) where
  one_instance : (covers : List Cover) → AllZip (IsFirstCover models covers) firsts rows → (path : List ℕ) → slice_get (instances models) k ≡ Some path → IsInstance models covers instance path
  one_instance covers zip path its =
      let r = row_of models rows k d table low in
      let here : r.path ≡ path = one_some (sym r.its ∙ its) in
      let mine : r.model ≡ instance.model = one_some (sym r.number ∙ model) in
      let first : CoversOf covers (get_or firsts k df) instance.model = pair_at (IsFirstCover models covers) firsts rows k (get_or firsts k df) (get_or rows k d) zip (at_place firsts k df (omega (arith, long, low))) r.here instance.model model in
      let count : length numbers ≡ length (instances models) = ap (λ l. length l) numbered ∙ length_map (instances models) in
      let of_rows = table.long in
      let there : slice_get numbers k ≡ Some (numbers_in models path) = ap (λ l. slice_get l k) numbered ∙ slice_get-map (λ p. numbers_in models p) (instances models) k ∙ ap (λ o. option_map (λ p. numbers_in models p) o) its in
      record {
        model = ap (λ p. model_at models p) (sym here) ∙ r.has ∙ ap Some mine;
        names = its_names ∙ signals_of models (map keys names) (get_or rows k d).model instance.model known model;
        numbers = its_numbers ∙ one_some (sym (at_place numbers k dn (omega (arith, count, of_rows, low))) ∙ there);
        has_covers = subst (λ c. (CoversOf covers c instance.model)) (sym cover) first;
      }
    where
      length_map : (paths : List (List ℕ)) → length (map (λ path. numbers_in models path) paths) ≡ length paths
      length_map [] = refl
      length_map (p ∷ paths) = ap suc (length_map paths)

  pub next_instance : (covers : List Cover) (all later : List Instance) → AllZip (IsFirstCover models covers) firsts rows → later ≡ all ++ instance ∷ [] → AllZip (IsInstance models covers) all (take k (instances models)) → AllZip (IsInstance models covers) later (take (k + 1) (instances models))
  next_instance covers all later zip e before =
      let of_rows = table.long in
      let low' : k < length (instances models) = omega (arith, of_rows, low) in
      subst (λ l. AllZip (IsInstance models covers) l (take (k + 1) (instances models))) (sym e)
      (subst (λ l. AllZip (IsInstance models covers) (all ++ instance ∷ []) l) (sym (take_more (instances models) k [] low'))
      (pushed (IsInstance models covers) all (take k (instances models)) instance (get_or (instances models) k []) before
      (one_instance covers zip (get_or (instances models) k []) (at_place (instances models) k [] low'))))
