-- Gate outputs have their sets, one after another.
use Rattle.std.proofs.Common.{◌≡◌, ◌≢◌, ℕ, ◌<◌, ◌+◌, suc, Bool, false, List, [], ◌∷◌, map, length, get_or, set, arith, sym, ap, refl, subst, ◌∙◌, inl, inr}
use Rattle.std.specs.Prelude.{All, AllPairs, ◌↔◌}
use Rattle.std.proofs.lemmas.List.{get_or-set_same, get_or-set_other, get_or_default}
use Rattle.std.proofs.lemmas.Bool.{cases_eq, cases_lt}
use Rattle.ste_base.specs.declared.id.NodeId.{NodeId}
use Rattle.net_core.specs.declared.bit_set.BitSet.{BitSet}
use Rattle.net_core.specs.declared.raw.Gate.{Gate}
use Rattle.net_core.specs.declared.raw.RawNet.{RawNet}
use Rattle.net_core.specs.Run.{gate_bit}
use Rattle.net_core.specs.Flat.{IsInRange, HasOneDriver, IsSettledOrder}
use Rattle.net_core.specs.Sets.{IsIn, both}
use Rattle.net_core.specs.Possible.{Asked, MayGive, ArePossible}
use Rattle.net_core.proofs.Possible.{same_set}
use Rattle.net_core.proofs.Ordered.{place_of}
use Rattle.plain_check.specs.private.Sets.{set_at, Allows, AreFlags, AreLatched, AreSets}
use Rattle.plain_check.proofs.Latched.{by_index}

-- the inputs' sets, where each is known
inputs_known : (sets : List BitSet) (family : ℕ → BitSet) (inputs : List NodeId) → All (λ input. set_at sets input.0 ≡ family input.0) inputs → map (λ input. set_at sets input.0) inputs ≡ map (λ input. family input.0) inputs
inputs_known sets family [] all = refl
inputs_known sets family (input ∷ inputs) all =
    let here = all 0 input (omega arith) in
    let rest = inputs_known sets family inputs (λ k d l. all (suc k) d (omega arith)) in
    cc

-- two gates that drive one net are one gate
one_gate : (gates : List Gate) → AllPairs (λ one other. one.output.0 ≢ other.output.0) gates → (j k : ℕ) (d e : Gate) → j < length gates → k < length gates → (get_or gates j d).output.0 ≡ (get_or gates k e).output.0 → get_or gates j d ≡ get_or gates k e
one_gate gates apart j k d e l m same =
    let at = get_or_default gates k e d m in
    elim (cases_lt j k) [
      | inl less ↦ absurd (apart j k d less m (same ∙ ap (λ (x : Gate). x.output.0) at))
      | inr more ↦ elim (cases_lt k j) [
        | inl less ↦ absurd (apart k j d less l (sym (same ∙ ap (λ (x : Gate). x.output.0) at)))
        | inr other ↦ let is : j ≡ k = omega arith in ap (λ (i : ℕ). get_or gates i d) is ∙ sym at
      ]
    ]

-- the bit is in the set just where the gate may give it on these sets, or its output is weakened
abbrev pub GivesUnless : Bool → RawNet → List BitSet → Gate → BitSet → Bool → Type 0
GivesUnless weak net sets gate found bit =
    IsIn bit found
    ↔ (weak ≡ false →
    MayGive (gate_bit net gate) (map (λ input. set_at sets input.0) gate.inputs) bit)

module _ (net : RawNet) (order : List ℕ) (held : List BitSet) (asked : Asked) (weak : List Bool)
    (allowed : List BitSet) (family : ℕ → BitSet) (range : IsInRange net) (one : HasOneDriver net)
    (is_order : IsSettledOrder net order) (long : length held ≡ length net.latches)
    (wide : length allowed ≡ net.nets) (allows : Allows asked.cuts allowed)
    (flags : AreFlags net.nets asked.weak weak) (possible : ArePossible net held asked family) where
  abbrev may_give : Bool → Gate → Type 0
  may_give bit gate = MayGive (gate_bit net gate) (map (λ input. family input.0) gate.inputs) bit

  -- a gate's output has the gate's set, unless it is weakened, as far as that is allowed
  gated : (n : ℕ) (gate : Gate) (found left : BitSet)
      → n < length net.gates → gate ≡ get_or net.gates n gate
      → ((bit : Bool) → IsIn bit found
      ↔ (get_or weak gate.output.0 false ≡ false →
      MayGive (gate_bit net gate) (map (λ input. family input.0) gate.inputs) bit))
      → ((bit : Bool) → IsIn bit left ↔ (IsIn bit found × IsIn bit (set_at allowed gate.output.0)))
      → left ≡ family gate.output.0
  gated n gate found left l is gives meets =
      let id = gate.output.0 in
      let inside : id < net.nets = subst (λ (x : Gate). x.output.0 < net.nets) (sym is) (range.gate_outputs n gate l) in
      let flag = flags id inside in
      same_set left (family id)
      (λ bit h. let parts = (meets bit).0 h in (possible.each id bit).1 (record {
        source = λ off. record {
          by_gate = λ k d m e.
              let output = e ∙ ap (λ (x : Gate). x.output.0) is in
              subst (may_give bit) (is ∙ sym (one_gate net.gates one.gates k n d gate m l output))
              ((gives bit).0 parts.0 (flag ∙ off));
          by_latch = by_index id bit net.latches held long (λ k m d e. absurd (one.apart k d m n gate l (sym (ap (λ (x : Gate). x.output.0) is) ∙ sym e)));
        };
        left = (allows id bit (omega arith)).0 parts.1;
      }))
      (λ bit h. let may = (possible.each id bit).0 h in (meets bit).1 (
        (gives bit).1 (λ off.
            let output = sym (ap (λ (x : Gate). x.output.0) is) in
            subst (may_give bit) (sym is) ((may.source (sym flag ∙ off)).by_gate n gate l output)),
        (allows id bit (omega arith)).1 may.left,
      ))

  -- one gate more has its set
  pub gate_done : (n number : ℕ) (gate : Gate) (b found left : BitSet) (sets : List BitSet)
      → length sets ≡ net.nets → n < length order → number ≡ get_or order n 0
      → gate ≡ get_or net.gates number gate
      → ((bit : Bool) → GivesUnless (get_or weak gate.output.0 false) net sets gate found bit)
      → ((bit : Bool) → IsIn bit left
      ↔ (IsIn bit found × IsIn bit (get_or allowed gate.output.0 b)))
      → AreSets net order n family sets
      → AreSets net order (n + 1) family (set sets gate.output.0 left)
  gate_done n number gate b found left sets size l at is gives meets before id m none =
      let known : number < length net.gates = rw at (is_order.gates n 0 l) in
      let inside : gate.output.0 < net.nets = subst (λ (x : Gate). x.output.0 < net.nets) (sym is) (range.gate_outputs number gate known) in
      let ready : All (λ input. set_at sets input.0 ≡ family input.0) gate.inputs = λ i d li.
      before (get_or gate.inputs i d).0 (subst (λ (x : Gate). All (λ input. input.0 < net.nets) x.inputs) (sym is) (range.gate_inputs number gate known) i d li)
      (λ k e le lt same.
      let same_gate : get_or net.gates (get_or order n 0) e ≡ gate = ap (λ (j : ℕ). get_or net.gates j e) (sym at) ∙ get_or_default net.gates number e gate known ∙ sym is in
      subst (λ (x : Gate). All (λ input. input.0 ≢ (get_or net.gates (get_or order k 0) e).output.0) x.inputs) same_gate (is_order.behind n k e le lt) i d li (sym same)) in
      let flag = get_or weak gate.output.0 false in
      let gives_bits : (bit : Bool) → IsIn bit found ↔ (flag ≡ false → may_give bit gate) = λ bit.
      subst (λ (xs : List BitSet). IsIn bit found ↔ (flag ≡ false → MayGive (gate_bit net gate) xs bit))
      (inputs_known sets family gate.inputs ready) (gives bit) in
      let meets_at : (bit : Bool) → IsIn bit left ↔ (IsIn bit found × IsIn bit (set_at allowed gate.output.0)) = λ bit.
      subst (λ (s : BitSet). IsIn bit left ↔ (IsIn bit found × IsIn bit s)) (get_or_default allowed gate.output.0 b both (omega arith)) (meets bit) in
      elim (cases_eq id gate.output.0) [
        | inl here ↦
            ap (λ (k : ℕ). get_or (set sets gate.output.0 left) k both) here ∙ get_or-set_same sets gate.output.0 left both (omega arith)
            ∙ gated number gate found left known is gives_bits meets_at ∙ ap family (sym here)
        | inr other ↦
            get_or-set_other sets gate.output.0 id left both other ∙ before id m (λ k d h p same. elim (cases_lt n k) [
              | inl after ↦ none k d (omega arith) p same
              | inr early ↦ let e : k ≡ n = omega arith in
                  other (sym same ∙ ap (λ (x : Gate). x.output.0) (ap (λ (i : ℕ). get_or net.gates (get_or order i 0) d) e ∙ ap (λ (j : ℕ). get_or net.gates j d) (sym at) ∙ get_or_default net.gates number d gate known ∙ sym is))
            ])
      ]

-- a net that no gate drives has its set before any gate is placed
pub gates_begin : (net : RawNet) (order : List ℕ) (family : ℕ → BitSet) (sets : List BitSet) → IsSettledOrder net order → AreLatched net (length net.latches) family sets → AreSets net order 0 family sets
gates_begin net order family sets is latched id l none = latched id l (λ g d lg e. let place = place_of order g (is.every g lg) in none place.0 d (omega arith) place.1 (ap (λ (j : ℕ). (get_or net.gates j d).output.0) place.2 ∙ e)) (λ k d le m. absurd (omega arith))
