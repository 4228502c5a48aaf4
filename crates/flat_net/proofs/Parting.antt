-- What a hierarchy without an early fault has.
use Rattle.std.proofs.Common.{◌≡◌, ℕ, zero, suc, ◌+◌, ◌<◌, ◌≤◌, List, [], ◌∷◌, ◌++◌, length, length-append, get_or, Option, None, Some, slice_get, arith, refl, sym, ap, ◌∙◌, subst, inl, inr}
use Rattle.std.specs.Prelude.{◌⊎◌, All, filter_map, flat_map, sum_by}
use Rattle.std.specs.List.{AllZip, cons_option}
use Rattle.std.proofs.lemmas.List.Sums.{sum_by-cons}
use Rattle.blif_syntax.specs.declared.models.Item.{Item}
use Rattle.blif_syntax.specs.declared.models.Model.{Model}
use Rattle.blif_syntax.specs.declared.models.What.{What}
use Rattle.blif_syntax.specs.declared.models.What.TheVariants.{Inputs, Outputs, Clock, Names, Latch, Subckt}
use Rattle.hierarchy.specs.declared.fault.NetFault.TheVariants.{TooDeep, TooManyNodes}
use Rattle.hierarchy.specs.Faults.{HasFaultBeforeInstances, HasUnknownModel, IsFree}
use Rattle.hierarchy.specs.Instances.{had_by, instances, model_at}
use Rattle.hierarchy.specs.Lines.{GateLine, gate_lines, gate_of, signal_words}
use Rattle.hierarchy.specs.Nets.{nets}
use Rattle.hierarchy.specs.Sizes.{IsShallow, words_of_signals, size}
use Rattle.hierarchy.proofs.Refused.{AreFreeBefore, free_before}
use Rattle.instances.specs.declared.table.Row.{Row}
use Rattle.instances.specs.Numbers.{AreRows}
use Rattle.instances.proofs.Rows.{row_of}
use Rattle.net_core.specs.declared.cover.Cover.{Cover}
use Rattle.flat_net.specs.private.Passes.{AreInstances, Instance, IsInstance, lines_at}

at_most : (n k : ℕ) → (k < n → ⊥) → n ≤ k
at_most n k h = elim (split n k) as (λ _. n ≤ k) [ inl low ↦ low | inr high ↦ absurd (h high) ]
  where
    split : (n k : ℕ) → (n ≤ k) ⊎ (k < n)
    split zero k = inl (omega arith)
    split (suc n) zero = inr (omega arith)
    split (suc n) (suc k) = elim (split n k) as (λ _. (suc n ≤ suc k) ⊎ (suc k < suc n)) [ inl a ↦ inl (omega arith) | inr b ↦ inr (omega arith) ]

-- a gate's line names a signal at least
one_word : (what : What) (gate : GateLine) → gate_of what ≡ Some gate → 1 ≤ length (signal_words what)
one_word (Names inputs output cover) gate e = let l = length-append inputs (output ∷ []) in omega (arith, l)
one_word (Inputs _) gate e = absurd (cc)
one_word (Outputs _) gate e = absurd (cc)
one_word (Clock _) gate e = absurd (cc)
one_word (Latch _ _ _ _ _) gate e = absurd (cc)
one_word (Subckt _ _) gate e = absurd (cc)

gates_few : (items : List Item) → length (filter_map (λ item. gate_of item.what) items) ≤ length (flat_map (λ item. signal_words item.what) items)
gates_few [] = omega arith
gates_few (item ∷ items) = by (gate_of item.what) refl (gates_few items) (length-append (signal_words item.what) (flat_map (λ i. signal_words i.what) items))
  where
    by : (o : Option GateLine) → gate_of item.what ≡ o → length (filter_map (λ i. gate_of i.what) items) ≤ length (flat_map (λ i. signal_words i.what) items) → length (signal_words item.what ++ flat_map (λ i. signal_words i.what) items) ≡ length (signal_words item.what) + length (flat_map (λ i. signal_words i.what) items) →
        length (cons_option o (filter_map (λ i. gate_of i.what) items)) ≤ length (signal_words item.what ++ flat_map (λ i. signal_words i.what) items)
    by None e again l = omega (arith, again, l)
    by (Some gate) e again l = let w = one_word item.what gate e in omega (arith, again, l, w)

had_few : (m : Option Model) → length (had_by gate_lines m) ≤ suc (length (had_by words_of_signals m))
had_few None = omega arith
had_few (Some m) = let g = gates_few m.items in omega (arith, g)

-- the gates of all instances are at most the size
module _ (models : List Model) where
  lines_few : (paths : List (List ℕ)) → length (flat_map (λ path. had_by gate_lines (model_at models path)) paths) ≤ sum_by (λ path. suc (length (had_by words_of_signals (model_at models path)))) paths
  lines_few [] = omega arith
  lines_few (path ∷ paths) =
      let a = length-append (had_by gate_lines (model_at models path)) (flat_map (λ p. had_by gate_lines (model_at models p)) paths) in
      let b = sum_by-cons (λ p. suc (length (had_by words_of_signals (model_at models p)))) path paths in
      let c = lines_few paths in
      let d = had_few (model_at models path) in
      omega (arith, a, b, c, d)

  rows_lines : (rows : List Row) (paths : List (List ℕ)) → length rows ≡ length paths → ((k : ℕ) (row : Row) (path : List ℕ) → slice_get rows k ≡ Some row → slice_get paths k ≡ Some path → model_at models path ≡ slice_get models row.model) → flat_map (lines_at models) rows ≡ flat_map (λ path. had_by gate_lines (model_at models path)) paths
  rows_lines [] [] long each = refl
  rows_lines [] (p ∷ paths) long each = absurd (omega arith)
  rows_lines (r ∷ rows) [] long each = absurd (omega arith)
  rows_lines (r ∷ rows) (p ∷ paths) long each =
      ap (λ m. had_by gate_lines m ++ flat_map (lines_at models) rows) (sym (each 0 r p refl refl))
      ∙ ap (λ l. had_by gate_lines (model_at models p) ++ l) (rows_lines rows paths (omega arith) (λ k. each (suc k)))

  module _ (free : IsFree (HasFaultBeforeInstances models)) where
    before : AreFreeBefore models
    before = free_before models free

    pub known : IsFree (HasUnknownModel models)
    known = before.unknown_model

    pub few_nets : length (nets models) ≤ 200000
    few_nets = at_most (length (nets models)) 200000 (λ h. before.too_many_nodes TooManyNodes (inl h, refl))

    few_size : size models ≤ 4000000
    few_size = at_most (size models) 4000000 (λ h. before.too_many_nodes TooManyNodes (inr h, refl))

    pub few_lines : (rows : List Row) → AreRows models rows → length (flat_map (lines_at models) rows) ≤ 4000000
    few_lines rows table =
        let same = rows_lines rows (instances models) table.long (λ k row path here its. (table.fits k row path here its).model) in
        let l : length (flat_map (lines_at models) rows) ≡ length (flat_map (λ path. had_by gate_lines (model_at models path)) (instances models)) = ap (λ x. length x) same in
        let a = lines_few (instances models) in
        let b = few_size in
        omega (arith, l, a, b)

  pub rows_low : (rows : List Row) → AreRows models rows → All (λ row. row.model < length models) rows
  rows_low rows table k d low = let r = row_of models rows k d table low in r.low

  -- no path is longer than 64 numbers
  pub shallow : IsFree (HasFaultBeforeInstances models) → IsShallow models
  shallow free path model is = at_most (length path) 64 (λ deep. (free_before models free).too_deep TooDeep (record { path = path; model = model; instance = is; deep = deep }, refl))

-- the first instance is the top
pub first_instance : (models : List Model) (covers : List Cover) (all : List Instance) (d : Instance) → 0 < length models → AreInstances models covers all → (0 < length all) × IsInstance models covers (get_or all 0 d) []
first_instance [] covers all d some are = absurd (omega arith)
first_instance (m ∷ models) covers [] d some are = absurd are
first_instance (m ∷ models) covers (x ∷ all) d some are = (omega arith, are.0)

pub zip_length : {A B : Type 0} (R : A → B → Type 0) (xs : List A) (ys : List B) → AllZip R xs ys → length xs ≡ length ys
zip_length R [] [] z = refl
zip_length R [] (y ∷ ys) z = absurd z
zip_length R (x ∷ xs) [] z = absurd z
zip_length R (x ∷ xs) (y ∷ ys) z = ap suc (zip_length R xs ys z.1)

pub some_instance : (models : List Model) (covers : List Cover) (all : List Instance) → 0 < length models → AreInstances models covers all → 0 < length all
some_instance [] covers all some are = absurd (omega arith)
some_instance (m ∷ models) covers [] some are = absurd are
some_instance (m ∷ models) covers (x ∷ all) some are = omega arith

pub is_first : (models : List Model) (covers : List Cover) (all : List Instance) (first : Instance) → 0 < length models → AreInstances models covers all → first ≡ get_or all 0 first → IsInstance models covers first []
is_first models covers all first some are e = let f = first_instance models covers all first some are in subst (λ i. IsInstance models covers i []) (sym e) f.1
