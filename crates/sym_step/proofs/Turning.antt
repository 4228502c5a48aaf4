-- One turn of the loop over the gates in settled order.
use Rattle.sym_step.specs.private.Parts.{HaveGates, asks, placed_set, placed_work}
use Rattle.sym_step.specs.Step.{ids_of}
use Rattle.ste_base.specs.declared.id.NodeId.{NodeId}
use Rattle.net_core.specs.Possible.{is_weakened}
use Rattle.std.proofs.Common.{◌≡◌, ◌≢◌, ℕ, zero, suc, ◌+◌, ◌<◌, Bool, List, [], ◌∷◌, ◌++◌, length, map, get_or, set, sym, ◌∙◌, ap, subst, arith, inl, inr, Result, All, length-set, get_or-set_same, get_or-set_other, refl, false}
use Rattle.std.specs.Prelude.{slice_get}
use Rattle.std.specs.List.{AllZip}
use Rattle.std.proofs.lemmas.Bool.{cases_lt, cases_eq}
use Rattle.std.proofs.lemmas.Option.{slice_get-get_or}
use Rattle.std.proofs.lemmas.List.{get_or_default}
use Rattle.std.proofs.lemmas.List.Elements.{Contains-append_left, Contains-append_right, Contains-append_cases}
use Rattle.std.proofs.Common.{⊎_elim, Contains}
use Rattle.ste_base.specs.Functions.{Function}
use Rattle.dd_nodes.specs.Stores.{Store, Keeps}
use Rattle.dd_nodes.proofs.Stores.{IsGood}
use Rattle.dd_ops.specs.declared.fault.OpFault.{OpFault}
use Rattle.net_core.specs.declared.bit_set.BitSet.{BitSet}
use Rattle.net_core.specs.declared.raw.Gate.{Gate}
use Rattle.net_core.specs.declared.raw.RawNet.{RawNet}
use Rattle.net_core.specs.declared.source.Source.TheVariants.{Gate as OfGate}
use Rattle.net_core.specs.Flat.{IsInRange, HasOneDriver, IsSettledOrder}
use Rattle.net_core.specs.Source.{source_of}
use Rattle.net_core.specs.Work.{SymbolicSet, SymbolicCut, set_at, after_cuts, by_source, by_gate, one_gate_work, set_before_cuts, unless_weakened, cuts_work, gates_work, output_set, time_work, sets_below, some_bit, no_bit, sums}
use Rattle.gate_sets.specs.declared.net_rails.NetRails.{NetRails}
use Rattle.gate_sets.specs.NetSets.{AreNetRails, AreNetRefs, net_at}
use Rattle.gate_sets.proofs.NetRefs.{Net-keeps}
use Rattle.dd_nodes.specs.Spending.{Has}
use Rattle.dd_nodes.proofs.Spending.{Covers}
use Rattle.dd_nodes.proofs.Members.{Contains-cons_cases}
use Rattle.dual_rail.proofs.Chains.{some_bit-has}
use Rattle.dual_rail.proofs.Works.{Built-covers, within_covers}
use Rattle.std.specs.Prelude.{◌||◌, not}
use Rattle.std.proofs.lemmas.List.{length-append, get_or_push}
use Rattle.std.proofs.Math.ListN.{get_or-append}
use Rattle.dual_rail.specs.Rail.{Built, Whatever}
use Rattle.dual_rail.proofs.Works.{SoFar}
use Rattle.dual_rail.proofs.Works.{Within, last}
use Rattle.sym_step.specs.declared.cut.Cut.{Cut}
use Rattle.sym_step.specs.Step.{IsCutBy}
use Rattle.net_core.specs.Work.{ArePossibleEach}
use Rattle.sym_step.proofs.Cutting.{Demands-keep}
use Rattle.net_core.proofs.OneTime.{fixed, gate_source}

-- what one gate builds is among the work of the time
gates_has : (net : RawNet) (weak : List ℕ) (sets : ℕ → SymbolicSet) (gates : List Gate) (k : ℕ) (d : Gate) → k < length gates
    → Within (one_gate_work (is_weakened weak (get_or gates k d).output.0) net sets (get_or gates k d)) (gates_work net weak sets gates)
gates_has net weak sets [] k d lt = absurd (omega arith)
gates_has net weak sets (g ∷ gs) zero d lt = λ x h. Contains-append_left (one_gate_work (is_weakened weak g.output.0) net sets g) (gates_work net weak sets gs) x h
gates_has net weak sets (g ∷ gs) (suc k) d lt = λ x h. Contains-append_right (one_gate_work (is_weakened weak g.output.0) net sets g) (gates_work net weak sets gs) x (gates_has net weak sets gs k d (omega arith) x h)

-- equal under each assignment of the store's variables
pub Net-same : (u : Store) (v w : SymbolicSet) (r : NetRails) → ((bits : List Bool) → length bits ≡ u.vars → set_at bits v ≡ set_at bits w) → AreNetRails u v r → AreNetRails u w r
Net-same u v w r same h = record {
  zero = record { ref = h.zero.ref; value = λ bits l. h.zero.value bits l ∙ ap (λ (x : BitSet). x.zero) (same bits l) };
  one = record { ref = h.one.ref; value = λ bits l. h.one.value bits l ∙ ap (λ (x : BitSet). x.one) (same bits l) };
  some = record { ref = h.some.ref; value = λ bits l. h.some.value bits l ∙ ap (λ (x : BitSet). x.zero || x.one) (same bits l) };
  known = λ yes bits l. sym (ap (λ (x : BitSet). x.zero) (same bits l)) ∙ h.known yes bits l ∙ ap (λ (x : BitSet). not x.one) (same bits l);
}

pub set_refs : (t : Store) (nets : List NetRails) (id : ℕ) (r : NetRails) → id < length nets → All (AreNetRefs t) nets → AreNetRefs t r → All (AreNetRefs t) (set nets id r)
set_refs t nets id r lt h hr k d l = elim (cases_eq k id) [
  | inl here ↦ subst (AreNetRefs t) (sym (ap (λ (i : ℕ). get_or (set nets id r) i d) here ∙ get_or-set_same nets id r d lt)) hr
  | inr other ↦ subst (AreNetRefs t) (sym (get_or-set_other nets id k r d other)) (h k d (let n = length-set nets id r in omega (arith, n, l)))
]

pub length-first_sets : (sets : ℕ → SymbolicSet) (n : ℕ) → length (sets_below sets n) ≡ n
length-first_sets sets zero = refl
length-first_sets sets (suc n) = length-append (sets_below sets n) (sets n ∷ []) ∙ let h = length-first_sets sets n in omega arith

pub first_sets-at : (sets : ℕ → SymbolicSet) (n k : ℕ) (d : SymbolicSet) → k < n → get_or (sets_below sets n) k d ≡ sets k
first_sets-at sets zero k d lt = absurd (omega arith)
first_sets-at sets (suc n) k d lt =
    let long = length-first_sets sets n in
    elim (cases_lt k n) [
      | inl old ↦ get_or-append (sets_below sets n) (sets n ∷ []) d k (omega arith) ∙ first_sets-at sets n k d old
      | inr late ↦ let e : n ≡ k = omega arith in get_or_push (sets_below sets n) (sets n) d k (omega arith) ∙ ap sets e
    ]

module _ (net : RawNet) (order : List ℕ) (range : IsInRange net) (one : HasOneDriver net) (is_order : IsSettledOrder net order)
    (ls : List SymbolicSet) (weak : List NodeId) (ds : List SymbolicCut) (sets : ℕ → SymbolicSet) (long : length ls ≡ length net.latches) where
  abbrev pub work : List Function
  work = time_work net ls (asks weak ds) sets

  abbrev pub before : ℕ → SymbolicSet
  before = set_before_cuts net (ids_of weak) ls sets

  -- the set before cuts at a gate's output
  pub before_is : (k : ℕ) (gate : Gate) → k < length net.gates → gate ≡ get_or net.gates k gate → before gate.output.0 ≡ placed_set weak net sets gate
  before_is k gate lt is =
      let source : source_of net gate.output.0 ≡ OfGate k = ap (λ (x : Gate). source_of net x.output.0) is ∙ gate_source net one k gate lt in
      ap (unless_weakened (is_weakened (ids_of weak) gate.output.0)) (ap (by_source net ls sets) source ∙ ap (by_gate net sets) (slice_get-get_or net.gates k gate lt) ∙ ap (output_set net sets) (sym is))

  gate_within : (k : ℕ) (gate : Gate) → k < length net.gates → gate ≡ get_or net.gates k gate → Within (placed_work weak net sets gate ++ cuts_work ds before) work
  gate_within k gate lt is x has = ⊎_elim
      (λ (h : Contains (placed_work weak net sets gate) x).
      let h' : Contains (placed_work weak net sets (get_or net.gates k gate)) x = subst (λ (y : Gate). Contains (placed_work weak net sets y) x) is h in
      Contains-append_right (cuts_work ds (set_before_cuts net (ids_of weak) ls sets)) (gates_work net (ids_of weak) sets net.gates ++ rest) x
      (Contains-append_left (gates_work net (ids_of weak) sets net.gates) rest x (gates_has net (ids_of weak) sets net.gates k gate lt x h')))
      (λ (h : Contains (cuts_work ds (set_before_cuts net (ids_of weak) ls sets)) x). Contains-append_left (cuts_work ds (set_before_cuts net (ids_of weak) ls sets)) (gates_work net (ids_of weak) sets net.gates ++ rest) x h)
      (Contains-append_cases (placed_work weak net sets gate) (cuts_work ds (set_before_cuts net (ids_of weak) ls sets)) x has)
    where
      all : List SymbolicSet
      all = sets_below sets net.nets

      rest : List Function
      rest = map some_bit all ++ (map no_bit all ++ sums (map no_bit all))

  -- where a net has a bit is one of the functions
  pub some_covered : (v id : ℕ) → ArePossibleEach v net ls (asks weak ds) sets → id < net.nets → Has v work (some_bit (after_cuts ds before id))
  some_covered v id family inside =
      let all : List SymbolicSet = sets_below sets net.nets in
      let n = length-first_sets sets net.nets in
      let tail : List Function = map no_bit all ++ sums (map no_bit all) in
      let d : SymbolicSet = record { zero = λ bits. false; one = λ bits. false } in
      let member : Contains (map some_bit all) (some_bit (sets id)) = subst (λ (w : SymbolicSet). Contains (map some_bit all) (some_bit w)) (first_sets-at sets net.nets id d inside) (some_bit-has all id d (omega (arith, n, inside))) in (
        some_bit (sets id),
        Contains-append_right (cuts_work ds before) (gates_work net (ids_of weak) sets net.gates ++ (map some_bit all ++ tail)) (some_bit (sets id))
            (Contains-append_right (gates_work net (ids_of weak) sets net.gates) (map some_bit all ++ tail) (some_bit (sets id)) (Contains-append_left (map some_bit all) tail (some_bit (sets id)) member)),
        λ bits l. ap (λ (x : BitSet). x.zero || x.one) (sym (fixed net v ls (asks weak ds) sets bits range one long family l id)),
      )

  pub with_some : (v id : ℕ) (part : List Function) → ArePossibleEach v net ls (asks weak ds) sets → id < net.nets → Within part work → Covers v (some_bit (after_cuts ds before id) ∷ part) work
  with_some v id part family inside within f has = ⊎_elim
      (λ (e : some_bit (after_cuts ds before id) ≡ f). subst (Has v work) e (some_covered v id family inside))
      (λ (later : Contains part f). within_covers v part work within f later)
      (Contains-cons_cases (some_bit (after_cuts ds before id)) part f has)

  -- the inputs of the next gate have their sets
  pub ready : (t : Store) (nets : List NetRails) (n number : ℕ) (gate : Gate) → HaveGates net order sets t n nets → n < length order → number ≡ get_or order n 0 → gate ≡ get_or net.gates number gate
      → All (λ input. AreNetRails t (sets input.0) (net_at nets input.0)) gate.inputs
  ready t nets n number gate have lt at_n is i d li =
      let known : number < length net.gates = rw at_n (is_order.gates n 0 lt) in
      have (get_or gate.inputs i d).0 (subst (λ (x : Gate). All (λ input. input.0 < net.nets) x.inputs) (sym is) (range.gate_inputs number gate known) i d li)
      (λ k e le l same.
      let same_gate : get_or net.gates (get_or order n 0) e ≡ gate = ap (λ (j : ℕ). get_or net.gates j e) (sym at_n) ∙ get_or_default net.gates number e gate known ∙ sym is in
      subst (λ (x : Gate). All (λ input. input.0 ≢ (get_or net.gates (get_or order k 0) e).output.0) x.inputs) same_gate (is_order.behind n k e le l) i d li (sym same))

  -- one gate more has its set
  pub place_turn : {A : Type 0} (s t u : Store) (cuts : List Cut) (nets : List NetRails) (n number : ℕ) (gate : Gate) (result : Result A OpFault) → IsGood s → IsGood t → IsGood u
      → ArePossibleEach s.vars net ls (asks weak ds) sets → AllZip (IsCutBy s) ds cuts → SoFar work s t → HaveGates net order sets t n nets
      → n < length order → number ≡ get_or order n 0 → gate ≡ get_or net.gates number gate
      → ((bs : List SymbolicCut) (b ws : ℕ → SymbolicSet) → AllZip (IsCutBy t) bs cuts → All (λ input. AreNetRails t (ws input.0) (net_at nets input.0)) gate.inputs → b gate.output.0 ≡ placed_set weak net ws gate
      → Built (some_bit (after_cuts bs b gate.output.0) ∷ (placed_work weak net ws gate ++ cuts_work bs b)) Whatever t u result)
      → Built work Whatever s u result
  place_turn s t u cuts nets n number gate result gs gt gu family zip so have lt at_n is call =
      let known : number < length net.gates = rw at_n (is_order.gates n 0 lt) in
      last work Whatever s t u result gt gu so
      (Built-covers work (some_bit (after_cuts ds before gate.output.0) ∷ (placed_work weak net sets gate ++ cuts_work ds before)) Whatever t u result
      (with_some t.vars gate.output.0 (placed_work weak net sets gate ++ cuts_work ds before) (subst (λ v. ArePossibleEach v net ls (asks weak ds) sets) (sym so.keeps.vars) family)
      (subst (λ (x : Gate). x.output.0 < net.nets) (sym is) (range.gate_outputs number gate known)) (gate_within number gate known is))
      (call ds before sets (Demands-keep s t ds cuts gs gt so.keeps zip) (ready t nets n number gate have lt at_n is) (before_is number gate known is)))

  -- and the others keep theirs
  pub placed : (s t u : Store) (nets : List NetRails) (n number : ℕ) (gate : Gate) (r : NetRails) → IsGood t → IsGood u → Keeps s u → Keeps t u → length nets ≡ net.nets
      → ArePossibleEach s.vars net ls (asks weak ds) sets → HaveGates net order sets t n nets → n < length order → number ≡ get_or order n 0 → gate ≡ get_or net.gates number gate
      → AreNetRails u (after_cuts ds before gate.output.0) r → HaveGates net order sets u (n + 1) (set nets gate.output.0 r)
  placed s t u nets n number gate r gt gu ksu ktu size family have lt at_n is made id inside none =
      let known : number < length net.gates = rw at_n (is_order.gates n 0 lt) in
      let out : gate.output.0 < net.nets = subst (λ (x : Gate). x.output.0 < net.nets) (sym is) (range.gate_outputs number gate known) in
      let d0 : NetRails = record { can0 = record { 0 = 1 }; can1 = record { 0 = 1 }; some = record { 0 = 1 }; known = false } in
      elim (cases_eq id gate.output.0) [
        | inl here ↦
            let right : AreNetRails u (sets gate.output.0) r = Net-same u (after_cuts ds (set_before_cuts net (ids_of weak) ls sets) gate.output.0) (sets gate.output.0) r (λ bits l. fixed net s.vars ls (asks weak ds) sets bits range one long family (l ∙ ksu.vars) gate.output.0) made in
            subst (λ (i : ℕ). AreNetRails u (sets i) (net_at (set nets gate.output.0 r) i)) (sym here) (subst (AreNetRails u (sets gate.output.0)) (sym (get_or-set_same nets gate.output.0 r d0 (omega (arith, size)))) right)
        | inr other ↦
            subst (AreNetRails u (sets id)) (sym (get_or-set_other nets gate.output.0 id r d0 other)) (Net-keeps t u (sets id) (net_at nets id) gt gu ktu (have id inside (λ k d h p same. elim (cases_lt n k) [
              | inl later ↦ none k d (omega arith) p same
              | inr early ↦ let e : k ≡ n = omega arith in
                  other (sym same ∙ ap (λ (x : Gate). x.output.0) (ap (λ (i : ℕ). get_or net.gates (get_or order i 0) d) e ∙ ap (λ (j : ℕ). get_or net.gates j d) (sym at_n) ∙ get_or_default net.gates number d gate known ∙ sym is))
            ])))
      ]
