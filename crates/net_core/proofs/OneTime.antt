-- What drives a net, and what it may have for that.
use Rattle.std.proofs.Common.{◌≡◌, ◌≢◌, ℕ, zero, suc, ◌<◌, Bool, true, false, List, [], ◌∷◌, length, map, get_or, refl, sym, ◌∙◌, ap, subst, arith, inl, inr, eq-eqb, ne_eqb, eqb-true, Option, Some, None, lt-ltb}
use Rattle.std.specs.Prelude.{◌==◌, ◌↔◌, All, AllPairs, if◌then◌else◌, position}
use Rattle.std.specs.List.{AllZip, list_any, position_or_len}
use Rattle.std.proofs.lemmas.Bool.{cases_lt}
use Rattle.std.proofs.lemmas.Option.{none-some, slice_get-get_or, get_or_from_slice_get}
use Rattle.std.proofs.lemmas.List.{get_or_default, get_or-map, length-map}
use Rattle.std.proofs.lemmas.List.Sums.{position_or_len_is}
use Rattle.std.proofs.lemmas.List.Folds.{Any-from_list_any}
use Rattle.std.proofs.lemmas.List.Quantifiers.{position-Some}
use Rattle.ste_base.specs.declared.id.NodeId.{NodeId}
use Rattle.net_core.specs.declared.bit_set.BitSet.{BitSet}
use Rattle.net_core.specs.declared.cover.Cover.{Cover}
use Rattle.net_core.specs.declared.raw.Gate.{Gate}
use Rattle.net_core.specs.declared.raw.Latch.{Latch}
use Rattle.net_core.specs.declared.raw.Init.TheVariants.{Zero}
use Rattle.net_core.specs.declared.raw.RawNet.{RawNet}
use Rattle.net_core.specs.declared.source.Source.{Source}
use Rattle.net_core.specs.declared.source.Source.TheVariants.{Input, Free, Gate as OfGate, Latch as OfLatch}
use Rattle.net_core.specs.Flat.{IsInRange, HasOneDriver}
use Rattle.net_core.specs.Run.{gate_bit, bit_of}
use Rattle.net_core.specs.Sets.{IsIn, both}
use Rattle.net_core.specs.Possible.{MayGive, is_weakened}
use Rattle.net_core.specs.Source.{driver, source_of}
use Rattle.net_core.specs.Work.{SymbolicSet, SymbolicAsked, set_at, after_cuts, set_before_cuts, unless_weakened, by_source, by_gate, cover_set, output_set, input_sets, everything, ArePossibleEach}
use Rattle.net_core.specs.Cover.{IsCover, cover_bit}
use Rattle.net_core.proofs.Among.{get_some}
use Rattle.net_core.proofs.Possible.{same_set}
use Rattle.net_core.proofs.GateSets.{cover_gives}
use Rattle.net_core.proofs.CutSets.{after_cuts_in}

first_at : {X : Type 0} (p : X → Bool) (xs : List X) (k : ℕ) (d : X) → k < length xs → p (get_or xs k d) ≡ true → ((j : ℕ) → j < k → p (get_or xs j d) ≡ false) → position p xs ≡ Some k
first_at p xs k d lt here before =
    let is : position_or_len p xs ≡ k = position_or_len_is p xs k d (omega arith) before (λ l. here) in
    let inside = lt-ltb k (length xs) lt in
    rw (is, inside) refl

gate_position : (net : RawNet) → HasOneDriver net → (k : ℕ) (d : Gate) (id : ℕ) → k < length net.gates → (get_or net.gates k d).output.0 ≡ id → position (λ gate. gate.output.0 == id) net.gates ≡ Some k
gate_position net one k d id lt e = first_at (λ gate. gate.output.0 == id) net.gates k d lt (eq-eqb _ id e)
    (λ j less. ne_eqb (get_or net.gates j d).output.0 id (λ f. one.gates j k d less lt (f ∙ sym e)))

latch_position : (net : RawNet) → HasOneDriver net → (k : ℕ) (d : Latch) (id : ℕ) → k < length net.latches → (get_or net.latches k d).output.0 ≡ id → position (λ latch. latch.output.0 == id) net.latches ≡ Some k
latch_position net one k d id lt e = first_at (λ latch. latch.output.0 == id) net.latches k d lt (eq-eqb _ id e)
    (λ j less. ne_eqb (get_or net.latches j d).output.0 id (λ f. one.latches j k d less lt (f ∙ sym e)))

abbrev pub NoGate : RawNet → ℕ → Type 0
NoGate net id = (k : ℕ) (d : Gate) → k < length net.gates → (get_or net.gates k d).output.0 ≢ id

abbrev pub NoLatch : RawNet → ℕ → Type 0
NoLatch net id = (k : ℕ) (d : Latch) → k < length net.latches → (get_or net.latches k d).output.0 ≢ id

-- what a source says
abbrev pub Facts : RawNet → ℕ → Source → Type 0
Facts net id Input = NoGate net id × NoLatch net id
Facts net id Free = NoGate net id × NoLatch net id
Facts net id (OfGate g) = (g < length net.gates) × ((d : Gate) → (get_or net.gates g d).output.0 ≡ id) × NoLatch net id
Facts net id (OfLatch l) = (l < length net.latches) × ((d : Latch) → (get_or net.latches l d).output.0 ≡ id) × NoGate net id

module _ (net : RawNet) (one : HasOneDriver net) (id : ℕ) where
  driver_facts : (o : Option ℕ) (p : Option ℕ) → position (λ gate. gate.output.0 == id) net.gates ≡ o → position (λ latch. latch.output.0 == id) net.latches ≡ p → Facts net id (driver o p)
  driver_facts (Some g) p e f =
      let at_gate : (d : Gate) → _ = λ d. position-Some (λ gate. gate.output.0 == id) net.gates g d e in
      let d0 : Gate = record { inputs = []; output = record { 0 = 0 }; cover = 0 } in
      ((at_gate d0).0, λ d. eqb-true _ id (at_gate d).1, λ k d lt same. one.apart k d lt g d0 (at_gate d0).0 (eqb-true _ id (at_gate d0).1 ∙ sym same))
  driver_facts None (Some l) e f =
      let at_latch : (d : Latch) → _ = λ d. position-Some (λ latch. latch.output.0 == id) net.latches l d f in
      ((at_latch (record { input = record { 0 = 0 }; output = record { 0 = 0 }; init = Zero })).0, λ d. eqb-true _ id (at_latch d).1, λ k d lt same. absurd (none-some k (sym e ∙ gate_position net one k d id lt same)))
  driver_facts None None e f = (λ k d lt same. none-some k (sym e ∙ gate_position net one k d id lt same), λ k d lt same. none-some k (sym f ∙ latch_position net one k d id lt same))

  input_facts : list_any (λ input. input.0 == id) net.inputs ≡ true → Facts net id Input
  input_facts h =
      let any = Any-from_list_any (λ (input : NodeId). input.0 == id) net.inputs h in
      let here : (get_or net.inputs any.0 any.1).0 ≡ id = ap (λ (n : NodeId). n.0) any.3 ∙ eqb-true _ id any.4 in
      (λ k d lt same. one.no_gate any.0 any.1 any.2 k d lt (same ∙ sym here), λ k d lt same. one.no_latch any.0 any.1 any.2 k d lt (same ∙ sym here))

  facts_by : (b : Bool) → list_any (λ input. input.0 == id) net.inputs ≡ b → Facts net id (if b then Input else driver (position (λ gate. gate.output.0 == id) net.gates) (position (λ latch. latch.output.0 == id) net.latches))
  facts_by true h = input_facts h
  facts_by false h = driver_facts _ _ refl refl

  pub facts : Facts net id (source_of net id)
  facts = facts_by _ refl

-- the gate that drives a net is its source
pub gate_source : (net : RawNet) → HasOneDriver net → (k : ℕ) (d : Gate) → k < length net.gates → source_of net (get_or net.gates k d).output.0 ≡ OfGate k
gate_source net one k d lt = by _ refl
  where
    id : ℕ
    id = (get_or net.gates k d).output.0

    by : (b : Bool) → list_any (λ input. input.0 == id) net.inputs ≡ b → (if b then Input else driver (position (λ gate. gate.output.0 == id) net.gates) (position (λ latch. latch.output.0 == id) net.latches)) ≡ OfGate k
    by true h = absurd ((input_facts net one id h).0 k d lt refl)
    by false h = ap (λ o. driver o (position (λ latch. latch.output.0 == id) net.latches)) (gate_position net one k d id lt refl)

-- ---- what the drivers give

abbrev pub GivenByGates : RawNet → (ℕ → BitSet) → ℕ → Bool → Type 0
GivenByGates net sets id bit = All (λ gate. gate.output.0 ≡ id → MayGive (gate_bit net gate) (map (λ input. sets input.0) gate.inputs) bit) net.gates

abbrev pub GivenByLatches : RawNet → List BitSet → ℕ → Bool → Type 0
GivenByLatches net held id bit = AllZip (λ latch set. latch.output.0 ≡ id → IsIn bit set) net.latches held

pub by_index : (id : ℕ) (bit : Bool) (latches : List Latch) (held : List BitSet) → length held ≡ length latches → ((k : ℕ) → k < length latches → (l : Latch) → (get_or latches k l).output.0 ≡ id → IsIn bit (get_or held k both)) → AllZip (λ latch set. latch.output.0 ≡ id → IsIn bit set) latches held
by_index id bit [] [] e each = tt
by_index id bit [] (y ∷ held) e each = absurd (omega arith)
by_index id bit (x ∷ latches) [] e each = absurd (omega arith)
by_index id bit (x ∷ latches) (y ∷ held) e each = (each 0 (omega arith) x, by_index id bit latches held (omega arith) (λ k l. each (suc k) (omega arith)))

may_at : (id : ℕ) (bit : Bool) (latches : List Latch) (held : List BitSet) (n : ℕ) (d : Latch) → AllZip (λ latch set. latch.output.0 ≡ id → IsIn bit set) latches held → n < length latches → (get_or latches n d).output.0 ≡ id → IsIn bit (get_or held n both)
may_at id bit [] held n d all l = absurd (omega arith)
may_at id bit (x ∷ latches) [] n d all l = absurd all
may_at id bit (x ∷ latches) (y ∷ held) zero d all l = all.0
may_at id bit (x ∷ latches) (y ∷ held) (suc n) d all l = may_at id bit latches held n d all.1 (omega arith)

inputs_at : (sets : ℕ → SymbolicSet) (bits : List Bool) (inputs : List NodeId) → map (set_at bits) (map (λ input. sets input.0) inputs) ≡ map (λ input. set_at bits (sets input.0)) inputs
inputs_at sets bits [] = refl
inputs_at sets bits (x ∷ xs) = ap (λ ys. set_at bits (sets x.0) ∷ ys) (inputs_at sets bits xs)

pub in_both : (bit : Bool) (bits : List Bool) → IsIn bit (set_at bits everything)
in_both true bits = refl
in_both false bits = refl

one_gate : (gates : List Gate) → AllPairs (λ one other. one.output.0 ≢ other.output.0) gates → (j k : ℕ) (d e : Gate) → j < length gates → k < length gates → (get_or gates j d).output.0 ≡ (get_or gates k e).output.0 → get_or gates j d ≡ get_or gates k e
one_gate gates apart j k d e l m same =
    let at_k = get_or_default gates k e d m in
    elim (cases_lt j k) [
      | inl less ↦ absurd (apart j k d less m (same ∙ ap (λ (x : Gate). x.output.0) at_k))
      | inr more ↦ elim (cases_lt k j) [
        | inl less ↦ absurd (apart k j d less l (sym (same ∙ ap (λ (x : Gate). x.output.0) at_k)))
        | inr other ↦ let is : j ≡ k = omega arith in ap (λ (i : ℕ). get_or gates i d) is ∙ sym at_k
      ]
    ]

one_latch : (latches : List Latch) → AllPairs (λ one other. one.output.0 ≢ other.output.0) latches → (j k : ℕ) (d e : Latch) → j < length latches → k < length latches → (get_or latches j d).output.0 ≡ (get_or latches k e).output.0 → j ≡ k
one_latch latches apart j k d e l m same =
    let at_k = get_or_default latches k e d m in
    elim (cases_lt j k) [
      | inl less ↦ absurd (apart j k d less m (same ∙ ap (λ (x : Latch). x.output.0) at_k))
      | inr more ↦ elim (cases_lt k j) [
        | inl less ↦ absurd (apart k j d less l (sym (same ∙ ap (λ (x : Latch). x.output.0) at_k)))
        | inr other ↦ omega arith
      ]
    ]

module _ (net : RawNet) (range : IsInRange net) (one : HasOneDriver net) (latches : List SymbolicSet) (long : length latches ≡ length net.latches) (sets : ℕ → SymbolicSet) (bits : List Bool) where
  -- what a gate gives, bit by bit
  pub gate_in : (g : ℕ) (d : Gate) (bit : Bool) → g < length net.gates → IsIn bit (set_at bits (output_set net sets (get_or net.gates g d))) ↔ MayGive (gate_bit net (get_or net.gates g d)) (map (λ input. set_at bits (sets input.0)) (get_or net.gates g d).inputs) bit
  gate_in g d bit lt =
      let gate : Gate = get_or net.gates g d in
      let known = get_some net.covers gate.cover (range.covers g d lt) in
      let cover : Cover = known.0 in
      let width : cover.inputs ≡ length gate.inputs = range.widths g d lt cover known.1 in
      let sound : IsCover cover = subst IsCover (get_or_from_slice_get net.covers gate.cover cover cover known.1) (range.sound gate.cover cover (range.covers g d lt)) in
      let ws : List SymbolicSet = input_sets sets gate in
      let gives = cover_gives cover ws bits bit sound (length-map gate.inputs (λ (input : NodeId). sets input.0) ∙ sym width) in
      subst (λ (o : Option Cover). IsIn bit (set_at bits (cover_set o ws)) ↔ MayGive (bit_of o) (map (λ input. set_at bits (sets input.0)) gate.inputs) bit) (sym known.1)
      (subst (λ (xs : List BitSet). IsIn bit (set_at bits (cover_set (Some cover) ws)) ↔ MayGive (cover_bit cover) xs bit) (inputs_at sets bits gate.inputs) gives)

  held_at : (l : ℕ) → l < length net.latches → set_at bits (get_or latches l everything) ≡ get_or (map (set_at bits) latches) l both
  held_at l lt = sym (get_or-map (set_at bits) latches l everything both (omega (arith, long)))

  d0 : Gate
  d0 = record { inputs = []; output = record { 0 = 0 }; cover = 0 }

  pub source_in : (id : ℕ) (bit : Bool) (src : Source) → Facts net id src → IsIn bit (set_at bits (by_source net latches sets src)) ↔ (GivenByGates net (λ k. set_at bits (sets k)) id bit × GivenByLatches net (map (set_at bits) latches) id bit)
  source_in id bit Input f = (
    λ h. (λ k d lt e. absurd (f.0 k d lt e), by_index id bit net.latches (map (set_at bits) latches) (length-map latches (set_at bits) ∙ long) (λ k lt l e. absurd (f.1 k l lt e))),
    λ h. in_both bit bits,
  )
  source_in id bit Free f = (
    λ h. (λ k d lt e. absurd (f.0 k d lt e), by_index id bit net.latches (map (set_at bits) latches) (length-map latches (set_at bits) ∙ long) (λ k lt l e. absurd (f.1 k l lt e))),
    λ h. in_both bit bits,
  )
  source_in id bit (OfGate g) f =
      let gate : Gate = get_or net.gates g d0 in
      let gives = gate_in g d0 bit f.0 in
      subst (λ (o : Option Gate). IsIn bit (set_at bits (by_gate net sets o)) ↔ (GivenByGates net (λ k. set_at bits (sets k)) id bit × GivenByLatches net (map (set_at bits) latches) id bit)) (sym (slice_get-get_or net.gates g d0 f.0)) (
        λ h. (
          λ k d lt e. subst (λ (x : Gate). MayGive (gate_bit net x) (map (λ input. set_at bits (sets input.0)) x.inputs) bit) (sym (one_gate net.gates one.gates k g d d0 lt f.0 (e ∙ sym (f.1 d0)))) (gives.0 h),
          by_index id bit net.latches (map (set_at bits) latches) (length-map latches (set_at bits) ∙ long) (λ k lt l e. absurd (f.2 k l lt e)),
        ),
        λ h. gives.1 (h.0 g d0 f.0 (f.1 d0)),
      )
  source_in id bit (OfLatch l) f =
      let same = held_at l f.0 in (
        λ h. (
          λ k d lt e. absurd (f.2 k d lt e),
          by_index id bit net.latches (map (set_at bits) latches) (length-map latches (set_at bits) ∙ long) (λ k lt x e.
              subst (λ (j : ℕ). IsIn bit (get_or (map (set_at bits) latches) j both)) (one_latch net.latches one.latches l k x x f.0 lt (f.1 x ∙ sym e)) (subst (IsIn bit) same h)),
        ),
        λ h. subst (IsIn bit) (sym same) (may_at id bit net.latches (map (set_at bits) latches) l (record { input = record { 0 = 0 }; output = record { 0 = 0 }; init = Zero }) h.1 f.0 (f.1 _)),
      )

-- what a net may have before its cuts
unless_in : (b : Bool) (w : SymbolicSet) (P : Type 0) (bits : List Bool) (bit : Bool) → (IsIn bit (set_at bits w) ↔ P) → IsIn bit (set_at bits (unless_weakened b w)) ↔ (b ≡ false → P)
unless_in true w P bits bit is = (λ h e. absurd (cc e), λ h. in_both bit bits)
unless_in false w P bits bit is = (λ h e. is.0 h, λ h. is.1 (h refl))

-- the possible sets are those that drivers and cuts give, net by net
pub fixed : (net : RawNet) (vars : ℕ) (latches : List SymbolicSet) (asked : SymbolicAsked) (sets : ℕ → SymbolicSet) (bits : List Bool) → IsInRange net → HasOneDriver net → length latches ≡ length net.latches
    → ArePossibleEach vars net latches asked sets → length bits ≡ vars → (id : ℕ) → set_at bits (after_cuts asked.cuts (set_before_cuts net asked.weak latches sets) id) ≡ set_at bits (sets id)
fixed net vars latches asked sets bits range one long family lb id =
    let src = source_in net range one latches long sets bits id in
    let given : (bit : Bool) → IsIn bit (set_at bits (set_before_cuts net asked.weak latches sets id)) ↔ (is_weakened asked.weak id ≡ false → GivenByGates net (λ k. set_at bits (sets k)) id bit × GivenByLatches net (map (set_at bits) latches) id bit) =
    λ bit. unless_in (is_weakened asked.weak id) (by_source net latches sets (source_of net id)) _ bits bit (src bit (source_of net id) (facts net one id)) in
    same_set (set_at bits (after_cuts asked.cuts (set_before_cuts net asked.weak latches sets) id)) (set_at bits (sets id))
    (λ bit h.
    let p = (after_cuts_in asked.cuts (set_before_cuts net asked.weak latches sets) id bits bit).0 h in
    ((family bits lb).each id bit).1 (record { source = λ e. let q = (given bit).0 p.0 e in record { by_gate = q.0; by_latch = q.1 }; left = p.1 }))
    (λ bit h.
    let m = ((family bits lb).each id bit).0 h in
    (after_cuts_in asked.cuts (set_before_cuts net asked.weak latches sets) id bits bit).1 ((given bit).1 (λ e. let q = m.source e in (q.by_gate, q.by_latch)), m.left))
