-- The covers of one more model.
use Rattle.std.proofs.Common.{append-nil, ◌≡◌, ℕ, zero, suc, ◌+◌, ◌<◌, ◌≤◌, List, [], ◌∷◌, ◌++◌, map, length, length-append, take, get_or, set, Option, Some, slice_get, arith, refl, sym, ap, ◌∙◌, subst, inl, inr}
use Rattle.std.specs.Prelude.{◌⊎◌, All, flat_map}
use Rattle.std.specs.List.{AllZip}
use Rattle.std.proofs.lemmas.List.{length-map, take_more}
use Rattle.std.proofs.lemmas.Grind.{flat_map-append}
use Rattle.net_core.specs.declared.cover.Cover.{Cover}
use Rattle.blif_syntax.specs.declared.models.Model.{Model}
use Rattle.hierarchy.specs.Lines.{GateLine, gate_lines}
use Rattle.hierarchy.specs.Instances.{had_by}
use Rattle.instances.specs.declared.table.Row.{Row}
use Rattle.flat_net.specs.private.Passes.{AreNarrow, AreSeen, CoversOf, Extends, IsFilled, IsFirstCover, IsNarrow, lines_at}

get_left : {X : Type 0} (xs ys : List X) (k : ℕ) (x : X) → slice_get xs k ≡ Some x → slice_get (xs ++ ys) k ≡ Some x
get_left [] ys k x e = absurd (cc)
get_left (z ∷ xs) ys zero x e = e
get_left (z ∷ xs) ys (suc k) x e = get_left xs ys k x e

get_right : {X : Type 0} (xs ys : List X) (k : ℕ) → slice_get (xs ++ ys) (length xs + k) ≡ slice_get ys k
get_right [] ys k = ap (λ n. slice_get ys n) (zero_more k)
  where
    zero_more : (n : ℕ) → 0 + n ≡ n
    zero_more n = omega arith
get_right (x ∷ xs) ys k = ap (λ n. slice_get (x ∷ (xs ++ ys)) n) (shift (length xs) k) ∙ get_right xs ys k
  where
    shift : (a b : ℕ) → suc a + b ≡ suc (a + b)
    shift a b = omega arith

put_first : (x : Cover) (xs : List Cover) → IsNarrow x → All IsNarrow xs → (k : ℕ) (d : Cover) → k < length (x ∷ xs) → IsNarrow (get_or (x ∷ xs) k d)
put_first x xs is all zero d low = is
put_first x xs is all (suc k) d low = all k d (omega arith)

all_append : (xs ys : List Cover) → All IsNarrow xs → All IsNarrow ys → All IsNarrow (xs ++ ys)
all_append [] ys a b = b
all_append (x ∷ xs) ys a b = put_first x (xs ++ ys) (a zero x (omega arith)) (all_append xs ys (λ j e h. a (suc j) e (omega arith)) b)

-- covers of gates are those of their lines
all_mapped : (lines : List GateLine) → AreNarrow lines → All IsNarrow (map (λ (line : GateLine). line.cover) lines)
all_mapped [] h = λ k d low. absurd (omega arith)
all_mapped (line ∷ lines) h = put_first line.cover (map (λ (l : GateLine). l.cover) lines) (h zero line (omega arith)) (all_mapped lines (λ k d low. h (suc k) d (omega arith)))

pub covers_stay : (before after : List Cover) (first : ℕ) (model : Model) → Extends before after → length before ≤ length after → CoversOf before first model → CoversOf after first model
covers_stay before after first model extends longer h = record {
  has = λ i line e. extends (first + i) line.cover (h.has i line e);
  few = let f = h.few in omega (arith, f, longer);
}

-- where they are added
pub covered_new : (models : List Model) (number : ℕ) (covers after : List Cover) (seen later : List (Option ℕ)) (first : ℕ) (model : Model) → length seen ≡ length models → AreSeen models covers seen → slice_get models number ≡ Some model → first ≡ length covers → after ≡ covers ++ map (λ line. line.cover) (gate_lines model) → later ≡ set seen number (Some first) → IsFilled models number covers after later first
covered_new models number covers after seen later first model long known at is add put =
    let extends : Extends covers after = λ k cover e. subst (λ l. slice_get l k ≡ Some cover) (sym add) (get_left covers (map (λ line. line.cover) (gate_lines model)) k cover e) in
    let grown : length after ≡ length covers + length (gate_lines model) = ap (λ l. length l) add ∙ length-append covers (map (λ line. line.cover) (gate_lines model)) ∙ ap (λ n. length covers + n) (length-map (gate_lines model) (λ line. line.cover)) in
    let mine : CoversOf after first model = record {
      has = λ i line e. ap (λ l. slice_get l (first + i)) add ∙ ap (λ n. slice_get (covers ++ map (λ line. line.cover) (gate_lines model)) (n + i)) is ∙ get_right covers (map (λ line. line.cover) (gate_lines model)) i ∙ mapped (gate_lines model) i line e;
      few = omega (arith, grown, is);
    } in
    record {
      known = λ n f m e has. by n f m has (written seen n number (Some first) (Some f) (subst (λ l. slice_get l n ≡ Some (Some f)) put e)) extends grown mine;
      long = ap (λ l. length l) put ∙ length_set seen number (Some first) ∙ long;
      extends = extends;
      longer = omega (arith, grown);
      few = let l = ap (λ m. length (had_by gate_lines m)) at in omega (arith, grown, l);
      is = λ m e. subst (λ x. CoversOf after first x) (same model m (sym at ∙ e)) mine;
      narrow = λ before lines. subst (λ l. All IsNarrow l) (sym add) (all_append covers (map (λ line. line.cover) (gate_lines model)) before
          (all_mapped (gate_lines model) (subst (λ o. AreNarrow (had_by gate_lines o)) at lines)));
    }
  where
    same : (a b : Model) → Some a ≡ Some b → a ≡ b
    same a b e = cc

    mapped : (lines : List GateLine) (i : ℕ) (line : GateLine) → slice_get lines i ≡ Some line → slice_get (map (λ line. line.cover) lines) i ≡ Some line.cover
    mapped [] i line e = absurd (cc)
    mapped (x ∷ lines) zero line e = cc
    mapped (x ∷ lines) (suc i) line e = mapped lines i line e

    length_set : {X : Type 0} (xs : List X) (k : ℕ) (x : X) → length (set xs k x) ≡ length xs
    length_set [] k x = refl
    length_set (y ∷ xs) zero x = refl
    length_set (y ∷ xs) (suc k) x = ap suc (length_set xs k x)

    written : {X : Type 0} (xs : List X) (n k : ℕ) (x y : X) → slice_get (set xs k x) n ≡ Some y → ((n ≡ k) × (x ≡ y)) ⊎ (slice_get xs n ≡ Some y)
    written [] n k x y e = absurd (cc)
    written (z ∷ xs) zero zero x y e = inl (refl, cc)
    written (z ∷ xs) (suc n) zero x y e = inr e
    written (z ∷ xs) zero (suc k) x y e = inr e
    written (z ∷ xs) (suc n) (suc k) x y e = elim (written xs n k x y e) as (λ _. ((suc n ≡ suc k) × (x ≡ y)) ⊎ (slice_get (z ∷ xs) (suc n) ≡ Some y)) [ inl a ↦ inl (ap suc a.0, a.1) | inr b ↦ inr b ]

    by : (n f : ℕ) (m : Model) → slice_get models n ≡ Some m → ((n ≡ number) × (Some first ≡ Some f)) ⊎ (slice_get seen n ≡ Some (Some f)) → Extends covers after → length after ≡ length covers + length (gate_lines model) → CoversOf after first model → CoversOf after f m
    by n f m has (inl new) extends grown mine =
        let one : model ≡ m = same model m (sym at ∙ ap (λ k. slice_get models k) (sym new.0) ∙ has) in
        subst (λ x. CoversOf after f x) one (subst (λ k. CoversOf after k model) (number_same new.1) mine)
      where
        number_same : Some first ≡ Some f → first ≡ f
        number_same e = cc
    by n f m has (inr old) extends grown mine = covers_stay covers after f m extends (omega (arith, grown)) (known n f m old has)

pub at_is : {X : Type 0} (xs : List X) (k : ℕ) (x : X) → k < length xs → x ≡ get_or xs k x → slice_get xs k ≡ Some x
at_is xs k x low e = at_place xs k x low ∙ ap Some (sym e)
  where
    at_place : {X : Type 0} (xs : List X) (k : ℕ) (d : X) → k < length xs → slice_get xs k ≡ Some (get_or xs k d)
    at_place [] k d h = absurd (omega arith)
    at_place (x ∷ xs) zero d h = refl
    at_place (x ∷ xs) (suc k) d h = at_place xs k d (omega arith)

-- what the rows up to one have, and that one
module _ {X Y : Type 0} (f : X → List Y) where
  rows_to : (xs : List X) (k : ℕ) (d : X) → k < length xs → length (flat_map f (take (k + 1) xs)) ≡ length (flat_map f (take k xs)) + length (f (get_or xs k d))
  rows_to xs k d low =
      ap (λ l. length (flat_map f l)) (take_more xs k d low)
      ∙ ap (λ l. length l) (flat_map-append f (take k xs) (get_or xs k d ∷ []))
      ∙ length-append (flat_map f (take k xs)) (f (get_or xs k d) ++ [])
      ∙ ap (λ l. length (flat_map f (take k xs)) + length l) (append-nil (f (get_or xs k d)))

  rows_within : (xs : List X) (k : ℕ) → length (flat_map f (take k xs)) ≤ length (flat_map f xs)
  rows_within xs zero = omega arith
  rows_within [] (suc k) = omega arith
  rows_within (x ∷ xs) (suc k) =
      let a = length-append (f x) (flat_map f (take k xs)) in
      let b = length-append (f x) (flat_map f xs) in
      let c = rows_within xs k in
      omega (arith, a, b, c)

pub still_narrow : (models : List Model) (rows : List Row) (k : ℕ) (d : Row) → k < length rows → All (λ row. AreNarrow (lines_at models row)) rows → (covers after : List Cover) (seen : List (Option ℕ)) (first : ℕ) → IsFilled models (get_or rows k d).model covers after seen first → All IsNarrow covers → All IsNarrow after
still_narrow models rows k d low narrow covers after seen first c before = c.narrow before (narrow k d low)

module _ (models : List Model) (rows : List Row) (k : ℕ) (d : Row) (low : k < length rows) (covers : List Cover) (few : length covers ≤ length (flat_map (lines_at models) (take k rows))) where
  pub room : length (flat_map (lines_at models) rows) ≤ 4294967295 → length covers + length (had_by gate_lines (slice_get models (get_or rows k d).model)) ≤ 4294967295
  room all =
      let a = rows_to (lines_at models) rows k d low in
      let b = rows_within (lines_at models) rows (k + 1) in
      omega (arith, a, b, few, all)

  pub still_few : (after : List Cover) (seen : List (Option ℕ)) (first : ℕ) → IsFilled models (get_or rows k d).model covers after seen first → length after ≤ length (flat_map (lines_at models) (take (k + 1) rows))
  still_few after seen first c =
      let a = rows_to (lines_at models) rows k d low in
      let b = c.few in
      omega (arith, a, b, few)

  pub more_firsts : (firsts later : List ℕ) (after : List Cover) (seen : List (Option ℕ)) (first : ℕ) → IsFilled models (get_or rows k d).model covers after seen first → later ≡ firsts ++ first ∷ [] → AllZip (IsFirstCover models covers) firsts (take k rows) → AllZip (IsFirstCover models after) later (take (k + 1) rows)
  more_firsts firsts later after seen first c e zip =
      subst (λ l. AllZip (IsFirstCover models after) l (take (k + 1) rows)) (sym e)
      (subst (λ l. AllZip (IsFirstCover models after) (firsts ++ first ∷ []) l) (sym (take_more rows k d low))
      (push firsts (take k rows) zip))
    where
      push : (firsts : List ℕ) (rs : List Row) → AllZip (IsFirstCover models covers) firsts rs → AllZip (IsFirstCover models after) (firsts ++ first ∷ []) (rs ++ get_or rows k d ∷ [])
      push [] [] z = (c.is, tt)
      push [] (r ∷ rs) z = absurd z
      push (f ∷ firsts) [] z = absurd z
      push (f ∷ firsts) (r ∷ rs) z = ((λ model at. covers_stay covers after f model c.extends c.longer (z.0 model at)), push firsts rs z.1)
