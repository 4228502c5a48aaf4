-- No net of a flat net is driven twice.
use Rattle.std.proofs.Common.{◌≡◌, true≢false, ℕ, zero, suc, ◌<◌, Bool, true, false, cond, ◌||◌, List, [], ◌∷◌, ◌++◌, map, length, get_or, Option, None, Some, arith, refl, sym, ap, ◌∙◌, subst, inl, inr}
use Rattle.std.specs.Prelude.{filter_map, flat_map, nat_eq}
use Rattle.std.specs.List.{AllZip, cons_option, list_any}
use Rattle.std.proofs.lemmas.Bool.Decides.{Decides-eqb}
use Rattle.ste_base.specs.declared.id.NodeId.{NodeId}
use Rattle.net_core.specs.declared.raw.Gate.{Gate}
use Rattle.net_core.specs.declared.raw.Latch.{Latch}
use Rattle.net_core.specs.declared.raw.RawNet.{RawNet}
use Rattle.net_core.specs.Flat.{HasOneDriver}
use Rattle.blif_syntax.specs.declared.models.Item.{Item}
use Rattle.blif_syntax.specs.declared.models.Model.{Model}
use Rattle.blif_syntax.specs.declared.models.What.{What}
use Rattle.blif_syntax.specs.declared.models.What.TheVariants.{Inputs, Outputs, Clock, Names, Latch as LatchItem, Subckt}
use Rattle.hierarchy.specs.declared.fault.NetFault.{NetFault}
use Rattle.hierarchy.specs.declared.fault.NetFault.TheVariants.{DrivenTwice}
use Rattle.hierarchy.specs.Faults.{HasDrivenTwice, IsFree, driven_twice}
use Rattle.hierarchy.specs.Lines.{DriverLine, GateLine, LatchLine, driver_lines, driver_of, driver_on, gate_lines, gate_of, latch_lines, latch_of}
use Rattle.hierarchy.specs.Instances.{had_by, instances, model_at}
use Rattle.hierarchy.specs.Names.{name_at}
use Rattle.hierarchy.specs.Nets.{drivers, gates as all_gates, input_numbers, latches as all_latches, number_at}
use Rattle.hierarchy.proofs.Members.{In, in_at, in_map}
use Rattle.instances.proofs.NoRepeats.{Distinct}
use Rattle.flat_net.specs.Flat.{IsFlat, IsGateOf, IsLatchOf}

-- the numbers of what is driven
abbrev driven_numbers : List Model → List (List ℕ × DriverLine) → List ℕ
driven_numbers models ats = map (λ at. number_at models at.0 at.1.output) ats

any_of : (n : ℕ) (xs : List ℕ) → In xs n → list_any (nat_eq n) xs ≡ true
any_of n [] h = absurd h
any_of n (x ∷ xs) (inl e) = ap (λ b. b || list_any (nat_eq n) xs) ((Decides-eqb n x).1 (sym e))
any_of n (x ∷ xs) (inr h) = by (nat_eq n x) (any_of n xs h)
  where
    by : (b : Bool) → list_any (nat_eq n) xs ≡ true → (b || list_any (nat_eq n) xs) ≡ true
    by true e = refl
    by false e = e

-- where nothing is driven twice, what is driven is different, and none of what was driven before
once : (models : List Model) (driven : List ℕ) (ats : List (List ℕ × DriverLine)) → driven_twice models driven ats ≡ None → ((x : ℕ) → In driven x → In (driven_numbers models ats) x → ⊥) × Distinct (driven_numbers models ats)
once models driven [] e = (λ x a b. b, tt)
once models driven (at ∷ ats) e = by (list_any (nat_eq (number_at models at.0 at.1.output)) driven) refl e (once models (number_at models at.0 at.1.output ∷ driven) ats)
  where
    by : (b : Bool) → list_any (nat_eq (number_at models at.0 at.1.output)) driven ≡ b → cond b (Some (DrivenTwice at.1.line (name_at models at.0 at.1.output))) (driven_twice models (number_at models at.0 at.1.output ∷ driven) ats) ≡ None →
        (driven_twice models (number_at models at.0 at.1.output ∷ driven) ats ≡ None → ((x : ℕ) → In (number_at models at.0 at.1.output ∷ driven) x → In (driven_numbers models ats) x → ⊥) × Distinct (driven_numbers models ats)) →
        ((x : ℕ) → In driven x → In (driven_numbers models (at ∷ ats)) x → ⊥) × Distinct (driven_numbers models (at ∷ ats))
    by true is none again = absurd (cc)
    by false is none again =
        let r = again none in
        (λ x h i. apart x h i r.0, ((λ h. r.0 (number_at models at.0 at.1.output) (inl refl) h), r.1))
      where
        apart : (x : ℕ) → In driven x → In (driven_numbers models (at ∷ ats)) x → ((y : ℕ) → In (number_at models at.0 at.1.output ∷ driven) y → In (driven_numbers models ats) y → ⊥) → ⊥
        apart x h (inl same) rest = absurd (true≢false (sym (any_of (number_at models at.0 at.1.output) driven (subst (λ y. In driven y) (sym same) h)) ∙ is))
        apart x h (inr later) rest = rest x (inr h) later

-- the gates and the latches among what is driven
record Mixed (all gates latches : List ℕ) : Type 0 where
  gates_in : (x : ℕ) → In gates x → In all x
  latches_in : (x : ℕ) → In latches x → In all x
  apart : Distinct all → Distinct gates × Distinct latches × ((x : ℕ) → In gates x → In latches x → ⊥)

more_gate : (x : ℕ) (all gates latches : List ℕ) → Mixed all gates latches → Mixed (x ∷ all) (x ∷ gates) latches
more_gate x all gates latches m = record {
  gates_in = λ y h. elim h as (λ _. In (x ∷ all) y) [ inl e ↦ inl e | inr i ↦ inr (m.gates_in y i) ];
  latches_in = λ y h. inr (m.latches_in y h);
  apart = λ d. let r = m.apart d.1 in (((λ i. d.0 (m.gates_in x i)), r.0), r.1, λ y h i. elim h as (λ _. ⊥) [ inl e ↦ d.0 (subst (λ z. In all z) (sym e) (m.latches_in y i)) | inr j ↦ r.2 y j i ]);
}

more_latch : (x : ℕ) (all gates latches : List ℕ) → Mixed all gates latches → Mixed (x ∷ all) gates (x ∷ latches)
more_latch x all gates latches m = record {
  gates_in = λ y h. inr (m.gates_in y h);
  latches_in = λ y h. elim h as (λ _. In (x ∷ all) y) [ inl e ↦ inl e | inr i ↦ inr (m.latches_in y i) ];
  apart = λ d. let r = m.apart d.1 in (r.0, ((λ i. d.0 (m.latches_in x i)), r.1), λ y h i. elim i as (λ _. ⊥) [ inl e ↦ d.0 (subst (λ z. In all z) (sym e) (m.gates_in y h)) | inr j ↦ r.2 y h j ]);
}

module _ (models : List Model) (path : List ℕ) where
  abbrev driver_number : DriverLine → ℕ
  driver_number d = number_at models path d.output

  abbrev gate_number : GateLine → ℕ
  gate_number g = number_at models path g.output

  abbrev latch_number : LatchLine → ℕ
  latch_number l = number_at models path l.output

  mixed_items : (items : List Item) (all gates latches : List ℕ) → Mixed all gates latches →
      Mixed (map driver_number (filter_map driver_of items) ++ all) (map gate_number (filter_map (λ item. gate_of item.what) items) ++ gates) (map latch_number (filter_map (λ item. latch_of item.what) items) ++ latches)
  mixed_items [] all gates latches m = m
  mixed_items (item ∷ items) all gates latches m = by item.line item.what (mixed_items items all gates latches m)
    where
      by : (line : ℕ) (what : What) → Mixed (map driver_number (filter_map driver_of items) ++ all) (map gate_number (filter_map (λ i. gate_of i.what) items) ++ gates) (map latch_number (filter_map (λ i. latch_of i.what) items) ++ latches) →
          Mixed (map driver_number (cons_option (driver_on line what) (filter_map driver_of items)) ++ all) (map gate_number (cons_option (gate_of what) (filter_map (λ i. gate_of i.what) items)) ++ gates) (map latch_number (cons_option (latch_of what) (filter_map (λ i. latch_of i.what) items)) ++ latches)
      by line (Names inputs output cover) again = more_gate (number_at models path output) (map driver_number (filter_map driver_of items) ++ all) (map gate_number (filter_map (λ i. gate_of i.what) items) ++ gates) (map latch_number (filter_map (λ i. latch_of i.what) items) ++ latches) again
      by line (LatchItem input output kind control init) again = more_latch (number_at models path output) (map driver_number (filter_map driver_of items) ++ all) (map gate_number (filter_map (λ i. gate_of i.what) items) ++ gates) (map latch_number (filter_map (λ i. latch_of i.what) items) ++ latches) again
      by line (Inputs _) again = again
      by line (Outputs _) again = again
      by line (Clock _) again = again
      by line (Subckt _ _) again = again

module _ (models : List Model) where
  none_mixed : Mixed [] [] []
  none_mixed = record { gates_in = λ x h. h; latches_in = λ x h. h; apart = λ d. (tt, tt, λ x h i. h) }

  -- the numbers of what the instances of these paths drive
  abbrev all_of : List (List ℕ) → List ℕ
  all_of paths = map (λ (at : List ℕ × DriverLine). number_at models at.0 at.1.output) (flat_map (λ path. map (λ item. (path, item)) (had_by driver_lines (model_at models path))) paths)

  abbrev gates_of : List (List ℕ) → List ℕ
  gates_of paths = map (λ (at : List ℕ × GateLine). number_at models at.0 at.1.output) (flat_map (λ path. map (λ item. (path, item)) (had_by gate_lines (model_at models path))) paths)

  abbrev latches_of : List (List ℕ) → List ℕ
  latches_of paths = map (λ (at : List ℕ × LatchLine). number_at models at.0 at.1.output) (flat_map (λ path. map (λ item. (path, item)) (had_by latch_lines (model_at models path))) paths)

  both : {X : Type 0} (out : X → List ℕ) (path : List ℕ) (xs : List X) (rest : List (List ℕ × X)) → map (λ (at : List ℕ × X). number_at models at.0 (out at.1)) (map (λ item. (path, item)) xs ++ rest) ≡ map (λ x. number_at models path (out x)) xs ++ map (λ (at : List ℕ × X). number_at models at.0 (out at.1)) rest
  both out path [] rest = refl
  both out path (x ∷ xs) rest = ap (λ l. number_at models path (out x) ∷ l) (both out path xs rest)

  mixed_is : (all gates latches all' gates' latches' : List ℕ) → all ≡ all' → gates ≡ gates' → latches ≡ latches' → Mixed all' gates' latches' → Mixed all gates latches
  mixed_is all gs ls all' gs' ls' a g l m = subst (λ x. Mixed x gs ls) (sym a) (subst (λ x. Mixed all' x ls) (sym g) (subst (λ x. Mixed all' gs' x) (sym l) m))

  mixed_instances : (paths : List (List ℕ)) → Mixed (all_of paths) (gates_of paths) (latches_of paths)
  mixed_instances [] = none_mixed
  mixed_instances (path ∷ paths) = by (model_at models path) (mixed_instances paths)
    where
      by : (m : Option Model) → Mixed (all_of paths) (gates_of paths) (latches_of paths) →
          Mixed (map (λ (at : List ℕ × DriverLine). number_at models at.0 at.1.output) (map (λ item. (path, item)) (had_by driver_lines m) ++ flat_map (λ path. map (λ item. (path, item)) (had_by driver_lines (model_at models path))) paths))
          (map (λ (at : List ℕ × GateLine). number_at models at.0 at.1.output) (map (λ item. (path, item)) (had_by gate_lines m) ++ flat_map (λ path. map (λ item. (path, item)) (had_by gate_lines (model_at models path))) paths))
          (map (λ (at : List ℕ × LatchLine). number_at models at.0 at.1.output) (map (λ item. (path, item)) (had_by latch_lines m) ++ flat_map (λ path. map (λ item. (path, item)) (had_by latch_lines (model_at models path))) paths))
      by None again = again
      by (Some m) again =
          mixed_is _ _ _ (map (driver_number models path) (driver_lines m) ++ all_of paths) (map (gate_number models path) (gate_lines m) ++ gates_of paths) (map (latch_number models path) (latch_lines m) ++ latches_of paths)
          (both (λ (d : DriverLine). d.output) path (driver_lines m) (flat_map (λ path. map (λ item. (path, item)) (had_by driver_lines (model_at models path))) paths))
          (both (λ (g : GateLine). g.output) path (gate_lines m) (flat_map (λ path. map (λ item. (path, item)) (had_by gate_lines (model_at models path))) paths))
          (both (λ (x : LatchLine). x.output) path (latch_lines m) (flat_map (λ path. map (λ item. (path, item)) (had_by latch_lines (model_at models path))) paths))
          (mixed_items models path m.items (all_of paths) (gates_of paths) (latches_of paths) again)

-- numbers that are different differ pair by pair
pairs : {X : Type 0} (f : X → ℕ) (xs : List X) → Distinct (map f xs) → (i j : ℕ) (e : X) → i < j → j < length xs → f (get_or xs i e) ≡ f (get_or xs j e) → ⊥
pairs f [] d i j e low high same = absurd (omega arith)
pairs f (x ∷ xs) d (suc i) zero e low high same = absurd (omega arith)
pairs f (x ∷ xs) d zero zero e low high same = absurd (omega arith)
pairs f (x ∷ xs) d zero (suc j) e low high same = d.0 (subst (λ n. In (map f xs) n) (sym same) (in_map f xs (get_or xs j e) (in_at xs j e (omega arith))))
pairs f (x ∷ xs) d (suc i) (suc j) e low high same = pairs f xs d.1 i j e (omega arith) (omega arith) same

module _ (models : List Model) (net : RawNet) (flat : IsFlat models net) (free : IsFree (HasDrivenTwice models)) where
  none : driven_twice models (input_numbers models) (drivers models) ≡ None
  none = by (driven_twice models (input_numbers models) (drivers models)) refl
    where
      by : (o : Option NetFault) → driven_twice models (input_numbers models) (drivers models) ≡ o → o ≡ None
      by None e = refl
      by (Some fault) e = absurd (free fault e)

  gate_outputs : (made : List Gate) (ats : List (List ℕ × GateLine)) → AllZip (IsGateOf models net) made ats → map (λ gate. gate.output.0) made ≡ map (λ at. number_at models at.0 at.1.output) ats
  gate_outputs [] [] z = refl
  gate_outputs [] (at ∷ ats) z = absurd z
  gate_outputs (g ∷ made) [] z = absurd z
  gate_outputs (g ∷ made) (at ∷ ats) z = ap (λ n. n ∷ map (λ (gate : Gate). gate.output.0) made) z.0.output ∙ ap (λ l. number_at models at.0 at.1.output ∷ l) (gate_outputs made ats z.1)

  latch_outputs : (made : List Latch) (ats : List (List ℕ × LatchLine)) → AllZip (IsLatchOf models) made ats → map (λ latch. latch.output.0) made ≡ map (λ at. number_at models at.0 at.1.output) ats
  latch_outputs [] [] z = refl
  latch_outputs [] (at ∷ ats) z = absurd z
  latch_outputs (l ∷ made) [] z = absurd z
  latch_outputs (l ∷ made) (at ∷ ats) z = ap (λ n. n ∷ map (λ (latch : Latch). latch.output.0) made) z.0.output ∙ ap (λ l. number_at models at.0 at.1.output ∷ l) (latch_outputs made ats z.1)

  pub one_driver : HasOneDriver net
  one_driver =
      let of_gates = gate_outputs net.gates (all_gates models) flat.gates in
      let of_latches = latch_outputs net.latches (all_latches models) flat.latches in
      let o = once models (input_numbers models) (drivers models) none in
      let mixed = mixed_instances models (instances models) in
      let m = mixed.apart o.1 in
      let gate_in : (k : ℕ) (d : Gate) → k < length net.gates → In (map (λ at. number_at models at.0 at.1.output) (all_gates models)) (get_or net.gates k d).output.0 = λ k d h. subst (λ l. In l (get_or net.gates k d).output.0) of_gates (in_map (λ (gate : Gate). gate.output.0) net.gates (get_or net.gates k d) (in_at net.gates k d h)) in
      let latch_in : (k : ℕ) (d : Latch) → k < length net.latches → In (map (λ at. number_at models at.0 at.1.output) (all_latches models)) (get_or net.latches k d).output.0 = λ k d h. subst (λ l. In l (get_or net.latches k d).output.0) of_latches (in_map (λ (latch : Latch). latch.output.0) net.latches (get_or net.latches k d) (in_at net.latches k d h)) in
      let input_in : (k : ℕ) (d : NodeId) → k < length net.inputs → In (input_numbers models) (get_or net.inputs k d).0 = λ k d h. subst (λ l. In l (get_or net.inputs k d).0) flat.inputs (in_map (λ (input : NodeId). input.0) net.inputs (get_or net.inputs k d) (in_at net.inputs k d h)) in
      record {
        gates = pairs (λ (gate : Gate). gate.output.0) net.gates (subst (λ l. Distinct l) (sym of_gates) m.0);
        latches = pairs (λ (latch : Latch). latch.output.0) net.latches (subst (λ l. Distinct l) (sym of_latches) m.1);
        apart = λ k d h j e i same. m.2 (get_or net.gates j e).output.0 (gate_in j e i) (subst (λ n. In (map (λ at. number_at models at.0 at.1.output) (all_latches models)) n) (sym same) (latch_in k d h));
        no_gate = λ k d h j e i same. o.0 (get_or net.inputs k d).0 (input_in k d h) (mixed.gates_in (get_or net.inputs k d).0 (subst (λ n. In (map (λ at. number_at models at.0 at.1.output) (all_gates models)) n) same (gate_in j e i)));
        no_latch = λ k d h j e i same. o.0 (get_or net.inputs k d).0 (input_in k d h) (mixed.latches_in (get_or net.inputs k d).0 (subst (λ n. In (map (λ at. number_at models at.0 at.1.output) (all_latches models)) n) same (latch_in j e i)));
      }
