-- Latch outputs and gate outputs have their bits, one after another.
use Rattle.std.proofs.Common.{◌≡◌, ◌≢◌, ℕ, ◌<◌, ◌+◌, suc, Bool, false, List, [], ◌∷◌, map, length, get_or, set, arith, sym, ap, refl, subst, ◌∙◌, inl, inr}
use Rattle.std.specs.List.{list_all}
use Rattle.std.specs.Prelude.{◌&&◌, zip, All, slice_get, Option, Some}
use Rattle.std.proofs.lemmas.List.{get_or-set_same, get_or-set_other, get_or_default, get_or-map}
use Rattle.std.proofs.lemmas.Bool.{cases_eq, cases_lt}
use Rattle.ste_base.specs.declared.id.NodeId.{NodeId}
use Rattle.net_core.specs.declared.cover.Cover.{Cover}
use Rattle.net_core.specs.declared.raw.Gate.{Gate}
use Rattle.net_core.specs.declared.raw.Latch.{Latch}
use Rattle.net_core.specs.declared.raw.RawNet.{RawNet}
use Rattle.net_core.specs.declared.cover.Lit.{Lit}
use Rattle.net_core.specs.Cover.{admits, cover_bit, matches}
use Rattle.net_core.specs.Run.{AreGateBits, bit_of, gate_bit}
use Rattle.net_core.specs.Flat.{IsInRange, IsSettledOrder}
use Rattle.net_core.proofs.Ordered.{place_of}
use Rattle.clock_step.specs.Simulation.{bit_in}
use Rattle.clock_step.specs.private.Settled.{AreLatched, AreSettled}
use Rattle.clock_step.specs.Determined.{AreDetermined, bit_at}

-- bits at nets, where each is known
pub bits_known : {X : Type 0} (net_of : X → ℕ) (one other : ℕ → Bool) (xs : List X) → All (λ x. one (net_of x) ≡ other (net_of x)) xs → map (λ x. one (net_of x)) xs ≡ map (λ x. other (net_of x)) xs
bits_known net_of one other [] all = refl
bits_known net_of one other (x ∷ xs) all =
    let here = all 0 x (omega arith) in
    let rest = bits_known net_of one other xs (λ k d l. all (suc k) d (omega arith)) in
    cc

-- a row over the bits of nets
pub row_bits : (bits : List Bool) (row : List Lit) (nets : List NodeId) → list_all (λ (at : Lit × NodeId). admits at.0 (bit_at bits at.1.0)) (zip row nets) ≡ matches row (map (λ (net : NodeId). bit_at bits net.0) nets)
row_bits bits [] nets = refl
row_bits bits (lit ∷ row) [] = refl
row_bits bits (lit ∷ row) (net ∷ nets) = ap (λ (b : Bool). admits lit (bit_at bits net.0) && b) (row_bits bits row nets)

-- one more latch has its bit
pub latch_done : (net : RawNet) (bit : ℕ → Bool) (held bits : List Bool) (n : ℕ) (latch : Latch) (b : Bool) → length bits ≡ net.nets → n < length net.latches → latch ≡ get_or net.latches n latch → latch.output.0 < net.nets → b ≡ get_or held n b → held ≡ map (λ l. bit l.output.0) net.latches → AreLatched net n bit bits → AreLatched net (n + 1) bit (set bits latch.output.0 b)
latch_done net bit held bits n latch b long l is inside here held_is before id m no_gate none =
    elim (cases_eq id latch.output.0) [
      | inl same ↦
          ap (λ (k : ℕ). get_or (set bits latch.output.0 b) k false) same ∙ get_or-set_same bits latch.output.0 b false (omega arith)
          ∙ here ∙ ap (λ (h : List Bool). get_or h n b) held_is ∙ get_or-map (λ (x : Latch). bit x.output.0) net.latches n latch b l
          ∙ ap (λ (x : Latch). bit x.output.0) (sym is) ∙ ap bit (sym same)
      | inr other ↦
          get_or-set_other bits latch.output.0 id b false other ∙ before id m no_gate (λ k d h p e. elim (cases_lt n k) [
            | inl after ↦ none k d (omega arith) p e
            | inr at ↦ let same : k ≡ n = omega arith in
                other (sym e ∙ ap (λ (x : Latch). x.output.0) (get_or_default net.latches k d latch p) ∙ ap (λ (i : ℕ). (get_or net.latches i latch).output.0) same ∙ ap (λ (x : Latch). x.output.0) (sym is))
          ])
    ]

-- at first what nothing drives has its bit
pub latches_begin : (net : RawNet) (nodes : List NodeId) (row held bits : List Bool) (bit : ℕ → Bool) → AreDetermined net nodes row held bit → ((id : ℕ) → bit_at bits id ≡ bit_in nodes row id) → AreLatched net 0 bit bits
latches_begin net nodes row held bits bit is placed id l no_gate none =
    placed id ∙ sym (is.given id l (record { by_gate = no_gate; by_latch = λ k d m. none k d (omega arith) m }))

-- a net that no gate drives has its bit before any gate is placed
pub gates_begin : (net : RawNet) (order : List ℕ) (bit : ℕ → Bool) (bits : List Bool) → IsSettledOrder net order → AreLatched net (length net.latches) bit bits → AreSettled net order 0 bit bits
gates_begin net order bit bits is latched id l none =
    latched id l
    (λ g d lg e. let place = place_of order g (is.every g lg) in none place.0 d (omega arith) place.1 (ap (λ (j : ℕ). (get_or net.gates j d).output.0) place.2 ∙ e))
    (λ k d le m. absurd (omega arith))

module _ (net : RawNet) (order : List ℕ) (bit : ℕ → Bool) (range : IsInRange net) (is_order : IsSettledOrder net order) (follow : AreGateBits net bit) where
  -- one more gate has its bit
  pub gate_done : (n number : ℕ) (gate : Gate) (cover : Cover) (inputs : List Bool) (b : Bool) (bits : List Bool) → length bits ≡ net.nets → n < length order → number ≡ get_or order n 0 → gate ≡ get_or net.gates number gate → slice_get net.covers gate.cover ≡ Some cover → inputs ≡ map (λ input. bit_at bits input.0) gate.inputs → b ≡ cover_bit cover inputs → AreSettled net order n bit bits → AreSettled net order (n + 1) bit (set bits gate.output.0 b)
  gate_done n number gate cover inputs b bits size l at is covers are gives before id m none =
      let known : number < length net.gates = rw at (is_order.gates n 0 l) in
      let inside : gate.output.0 < net.nets = subst (λ (x : Gate). x.output.0 < net.nets) (sym is) (range.gate_outputs number gate known) in
      let ready : All (λ input. bit_at bits input.0 ≡ bit input.0) gate.inputs = λ i d li.
      before (get_or gate.inputs i d).0 (subst (λ (x : Gate). All (λ input. input.0 < net.nets) x.inputs) (sym is) (range.gate_inputs number gate known) i d li)
      (λ k e le lt same.
      let same_gate : get_or net.gates (get_or order n 0) e ≡ gate = ap (λ (j : ℕ). get_or net.gates j e) (sym at) ∙ get_or_default net.gates number e gate known ∙ sym is in
      subst (λ (x : Gate). All (λ input. input.0 ≢ (get_or net.gates (get_or order k 0) e).output.0) x.inputs) same_gate (is_order.behind n k e le lt) i d li (sym same)) in
      let gathered : inputs ≡ map (λ input. bit input.0) gate.inputs = are ∙ bits_known (λ (input : NodeId). input.0) (bit_at bits) bit gate.inputs ready in
      let function : cover_bit cover inputs ≡ gate_bit net gate inputs = ap (λ (o : Option Cover). bit_of o inputs) (sym covers) in
      let own : bit gate.output.0 ≡ gate_bit net gate (map (λ input. bit input.0) gate.inputs) =
      subst (λ (x : Gate). bit x.output.0 ≡ gate_bit net x (map (λ input. bit input.0) x.inputs)) (sym is) (follow number gate known) in
      elim (cases_eq id gate.output.0) [
        | inl here ↦
            ap (λ (k : ℕ). get_or (set bits gate.output.0 b) k false) here ∙ get_or-set_same bits gate.output.0 b false (omega arith)
            ∙ gives ∙ function ∙ ap (gate_bit net gate) gathered ∙ sym own ∙ ap bit (sym here)
        | inr other ↦
            get_or-set_other bits gate.output.0 id b false other ∙ before id m (λ k d h p same. elim (cases_lt n k) [
              | inl after ↦ none k d (omega arith) p same
              | inr early ↦ let e : k ≡ n = omega arith in
                  other (sym same ∙ ap (λ (x : Gate). x.output.0) (ap (λ (i : ℕ). get_or net.gates (get_or order i 0) d) e ∙ ap (λ (j : ℕ). get_or net.gates j d) (sym at) ∙ get_or_default net.gates number d gate known ∙ sym is))
            ])
      ]
