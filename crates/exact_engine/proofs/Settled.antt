-- The gates have their bits, one after another.
use Rattle.std.proofs.Common.{◌≡◌, ◌≢◌, ℕ, zero, suc, ◌<◌, ◌≤◌, ◌+◌, Bool, List, [], ◌∷◌, map, length, get_or, set, arith, sym, ap, refl, subst, ◌∙◌, inl, inr, ⊎_elim, Contains, Result, Ok}
use Rattle.std.specs.Prelude.{All, slice_get, Option, Some}
use Rattle.std.proofs.lemmas.Bool.{cases_eq, cases_lt}
use Rattle.std.proofs.lemmas.List.{get_or-set_same, get_or-set_other, get_or_default}
use Rattle.std.proofs.lemmas.List.Elements.{Contains-append_left, Contains-append_right, Contains-append_cases}
use Rattle.dd_nodes.proofs.Members.{Contains-cons_cases, Contains-none}
use Rattle.dd_nodes.specs.declared.node.Ref.{Ref}
use Rattle.ste_base.specs.Functions.{Function}
use Rattle.dd_nodes.specs.Spending.{Has}
use Rattle.dd_nodes.specs.Stores.{Store, IsRef, Keeps, Means, function}
use Rattle.exact_engine.proofs.Rows.{own_at}
use Rattle.dd_nodes.proofs.Spending.{Covers, Means-same}
use Rattle.dd_nodes.proofs.Stores.{IsGood, Means-keeps}
use Rattle.dd_ops.specs.declared.fault.OpFault.{OpFault}
use Rattle.ste_base.specs.declared.id.NodeId.{NodeId}
use Rattle.net_core.specs.declared.cover.Cover.{Cover}
use Rattle.net_core.specs.declared.raw.Gate.{Gate}
use Rattle.net_core.specs.declared.raw.RawNet.{RawNet}
use Rattle.net_core.specs.Cover.{IsCover}
use Rattle.net_core.specs.Flat.{IsInRange, IsSettledOrder}
use Rattle.net_core.specs.Run.{bit_of, gate_bit}
use Rattle.net_core.specs.Work.{AreWide, negation}
use Rattle.net_core.proofs.Ordered.{place_of}
use Rattle.dual_rail.specs.Rail.{Built, HasFunction}
use Rattle.dual_rail.proofs.Works.{SoFar, Within, Built-covers, Built-good, here, last}
use Rattle.exact_model.specs.ExactWork.{bit_functions, cover_functions, gates_functions}
use Rattle.exact_engine.specs.private.Bits.{AreAt, AreBits, AreSettled, AreSources, FollowGates, cover_function, cover_work, net_ref, of_nodes, time_work}
use Rattle.exact_engine.proofs.Values.{cover_value}

-- ---- lists of functions

-- the bit of a net is among those of all
pub bits_have : (bit : ℕ → Function) (n id : ℕ) → id < n → Contains (bit_functions bit n) (bit id)
bits_have bit zero id l = absurd (omega arith)
bits_have bit (suc n) id l = elim (cases_lt id n) [
  | inl early ↦ Contains-append_left (bit_functions bit n) (bit n ∷ negation (bit n) ∷ []) (bit id) (bits_have bit n id early)
  | inr late ↦
      let same : n ≡ id = omega arith in
      subst (λ (k : ℕ). Contains (bit_functions bit (suc n)) (bit k)) same (Contains-append_right (bit_functions bit n) (bit n ∷ negation (bit n) ∷ []) (bit n) (here (bit n) (negation (bit n) ∷ [])))
]

-- the functions of a gate are among those of all
gates_have : (net : RawNet) (bit : ℕ → Function) (gates : List Gate) (number : ℕ) (gate : Gate) → number < length gates → gate ≡ get_or gates number gate
    → Within (cover_functions (slice_get net.covers gate.cover) (of_nodes bit gate.inputs)) (gates_functions net bit gates)
gates_have net bit [] number gate l is f h = absurd (omega arith)
gates_have net bit (first ∷ gates) zero gate l is f h =
    Contains-append_left (cover_functions (slice_get net.covers first.cover) (of_nodes bit first.inputs)) (gates_functions net bit gates) f
    (subst (λ (x : Gate). Contains (cover_functions (slice_get net.covers x.cover) (of_nodes bit x.inputs)) f) is h)
gates_have net bit (first ∷ gates) (suc number) gate l is f h =
    Contains-append_right (cover_functions (slice_get net.covers first.cover) (of_nodes bit first.inputs)) (gates_functions net bit gates) f (gates_have net bit gates number gate (omega arith) is f h)

-- ---- what a gate asks

pub gate_wide : (net : RawNet) (number : ℕ) (gate : Gate) (cover : Cover) → IsInRange net → number < length net.gates → gate ≡ get_or net.gates number gate → slice_get net.covers gate.cover ≡ Some cover → AreWide cover.rows (length gate.inputs)
gate_wide net number gate cover range l is covers i d m =
    let width : cover.inputs ≡ length gate.inputs = (subst (λ (x : Gate). (c : Cover) → slice_get net.covers x.cover ≡ Some c → c.inputs ≡ length x.inputs) (sym is) (range.widths number gate l)) cover covers in
    let sound : IsCover cover = cover_sound net.covers gate.cover cover range.sound covers in
    sound.wide i d m ∙ width
  where
    cover_sound : (covers : List Cover) (k : ℕ) (c : Cover) → All IsCover covers → slice_get covers k ≡ Some c → IsCover c
    cover_sound [] k c all e = absurd cc
    cover_sound (x ∷ xs) zero c all e = let same : x ≡ c = cc in subst IsCover same (all 0 x (omega arith))
    cover_sound (x ∷ xs) (suc k) c all e = cover_sound xs k c (λ j d m. all (suc j) d (omega arith)) e

pub inputs_inside : (net : RawNet) (number : ℕ) (gate : Gate) (n : ℕ) → IsInRange net → number < length net.gates → gate ≡ get_or net.gates number gate → n ≡ net.nets → All (λ input. input.0 < n) gate.inputs
inputs_inside net number gate n range l is e = subst (λ (m : ℕ). All (λ input. input.0 < m) gate.inputs) (sym e) (subst (λ (x : Gate). All (λ input. input.0 < net.nets) x.inputs) (sym is) (range.gate_inputs number gate l))

-- ---- one gate more

module _ (net : RawNet) (order : List ℕ) (bit : ℕ → Function) (range : IsInRange net) (is_order : IsSettledOrder net order) where
  -- a net that no gate drives has its bit before any gate is placed
  pub settled_first : (s : Store) (refs : List Ref) → AreSources s net bit refs → AreSettled s net order 0 bit refs
  settled_first s refs sources id l none =
      sources id l
      (λ g d lg e. let place = place_of order g (is_order.every g lg) in none place.0 d (omega arith) place.1 (ap (λ (j : ℕ). (get_or net.gates j d).output.0) place.2 ∙ e))

  -- and all have theirs behind the last one
  pub settled_last : (s : Store) (refs : List Ref) (n : ℕ) → length order ≤ n → AreSettled s net order n bit refs → AreBits s net.nets bit refs
  settled_last s refs n le settled id l = settled id l (λ k d m p. absurd (omega arith))

  module _ (s t u : Store) (n number : ℕ) (gate : Gate) (cover : Cover) (refs : List Ref) (ds : IsGood s) (dt : IsGood t) (du : IsGood u) (long : length refs ≡ net.nets) (l : n < length order) (at : number ≡ get_or order n 0) (is : gate ≡ get_or net.gates number gate) (covers : slice_get net.covers gate.cover ≡ Some cover) (follow : FollowGates s.vars net bit) where
    known : number < length net.gates
    known = rw at (is_order.gates n 0 l)

    ready : AreSettled t net order n bit refs → AreAt t bit refs gate.inputs
    ready before i d li =
        before (get_or gate.inputs i d).0 (subst (λ (x : Gate). All (λ input. input.0 < net.nets) x.inputs) (sym is) (range.gate_inputs number gate known) i d li)
        (λ k e le lt same.
        let same_gate : get_or net.gates (get_or order n 0) e ≡ gate = ap (λ (j : ℕ). get_or net.gates j e) (sym at) ∙ get_or_default net.gates number e gate known ∙ sym is in
        subst (λ (x : Gate). All (λ input. input.0 ≢ (get_or net.gates (get_or order k 0) e).output.0) x.inputs) same_gate (is_order.behind n k e le lt) i d li (sym same))

    -- the cover's function has the values of the output's bit
    out_value : (bits : List Bool) → length bits ≡ s.vars → bit gate.output.0 bits ≡ cover_function (Some cover) (of_nodes bit gate.inputs) bits
    out_value bits m =
        let own : bit gate.output.0 bits ≡ gate_bit net gate (map (λ (input : NodeId). bit input.0 bits) gate.inputs) =
        subst (λ (x : Gate). bit x.output.0 bits ≡ gate_bit net x (map (λ (input : NodeId). bit input.0 bits) x.inputs)) (sym is) (follow bits m number gate known) in
        own ∙ ap (λ (o : Option Cover). bit_of o (map (λ (input : NodeId). bit input.0 bits) gate.inputs)) covers ∙ sym (cover_value cover bit gate.inputs bits)

    out_inside : gate.output.0 < net.nets
    out_inside = subst (λ (x : Gate). x.output.0 < net.nets) (sym is) (range.gate_outputs number gate known)

    out_has : Has s.vars (time_work net bit) (cover_function (Some cover) (of_nodes bit gate.inputs))
    out_has = (bit gate.output.0, Contains-append_left (bit_functions bit net.nets) (gates_functions net bit net.gates) (bit gate.output.0) (bits_have bit net.nets gate.output.0 out_inside), out_value)

    covered : Covers s.vars (cover_work (Some cover) (of_nodes bit gate.inputs)) (time_work net bit)
    covered f h =
        let fs = of_nodes bit gate.inputs in
        ⊎_elim
        (λ (early : Contains (cover_functions (Some cover) fs) f). (
          f,
          Contains-append_right (bit_functions bit net.nets) (gates_functions net bit net.gates) f
              (gates_have net bit net.gates number gate known is f (subst (λ (o : Option Cover). Contains (cover_functions o fs) f) (sym covers) early)),
          λ bits m. refl,
        ))
        (λ (late : Contains (cover_function (Some cover) fs ∷ []) f).
        ⊎_elim
        (λ (e : cover_function (Some cover) fs ≡ f). subst (λ (g : Function). Has s.vars (time_work net bit) g) e out_has)
        (λ (none : Contains [] f). absurd (Contains-none f none))
        (Contains-cons_cases (cover_function (Some cover) fs) [] f late))
        (Contains-append_cases (cover_functions (Some cover) fs) (cover_function (Some cover) fs ∷ []) f h)

    pub gate_turn : (result : Result Ref OpFault) → SoFar (time_work net bit) s t → AreSettled t net order n bit refs
        → ((b : ℕ → Function) → AreAt t b refs gate.inputs → Built (cover_work (Some cover) (of_nodes b gate.inputs)) (HasFunction (cover_function (Some cover) (of_nodes b gate.inputs))) t u result)
        → Built (time_work net bit) (HasFunction (bit gate.output.0)) s u result
    gate_turn result so before call =
        let work : List Function = time_work net bit in
        let f : Function = cover_function (Some cover) (of_nodes bit gate.inputs) in
        let b = call bit (ready before) in
        let vars : t.vars ≡ s.vars = so.keeps.vars in
        let after : u.vars ≡ s.vars = b.spends.keeps.vars ∙ vars in
        last work (HasFunction (bit gate.output.0)) s t u result dt du so
        (Built-good work (HasFunction f) (HasFunction (bit gate.output.0)) t u result
        (λ r m. Means-same u f (bit gate.output.0) r (λ bits k. sym (out_value bits (k ∙ after))) m)
        (Built-covers work (cover_work (Some cover) (of_nodes bit gate.inputs)) (HasFunction f) t u result (subst (λ (v : ℕ). Covers v (cover_work (Some cover) (of_nodes bit gate.inputs)) work) (sym vars) covered) b))

    pub gate_done : (r : Ref) → Keeps t u → AreSettled t net order n bit refs → Means u (bit gate.output.0) r → AreSettled u net order (n + 1) bit (set refs gate.output.0 r)
    gate_done r keeps before m id lid none = elim (cases_eq id gate.output.0) [
      | inl same ↦
          let inside : gate.output.0 < length refs = let o = out_inside in omega (arith, o, long) in
          let none_ref : Ref = record { 0 = 0 } in
          let is_r : get_or (set refs gate.output.0 r) id none_ref ≡ r = ap (λ (k : ℕ). get_or (set refs gate.output.0 r) k none_ref) same ∙ get_or-set_same refs gate.output.0 r none_ref inside in
          subst (λ (x : Ref). Means u (bit id) x) (sym is_r) (subst (λ (k : ℕ). Means u (bit k) r) (sym same) m)
      | inr other ↦
          let none_ref : Ref = record { 0 = 0 } in
          let is_r : get_or (set refs gate.output.0 r) id none_ref ≡ get_or refs id none_ref = get_or-set_other refs gate.output.0 id r none_ref other in
          subst (λ (x : Ref). Means u (bit id) x) (sym is_r)
          (Means-keeps t u (bit id) (net_ref refs id) dt du keeps
          (before id lid (λ k d h p same. elim (cases_lt n k) [
            | inl after ↦ none k d (omega arith) p same
            | inr early ↦ let e : k ≡ n = omega arith in
                other (sym same ∙ ap (λ (x : Gate). x.output.0) (ap (λ (i : ℕ). get_or net.gates (get_or order i 0) d) e ∙ ap (λ (j : ℕ). get_or net.gates j d) (sym at) ∙ get_or_default net.gates number d gate known ∙ sym is))
          ])))
    ]

-- one reference more
pub refs_set : (t u : Store) (refs : List Ref) (i : ℕ) (r : Ref) → All (IsRef u) refs → IsRef u r → All (IsRef u) (set refs i r)
refs_set t u [] i r all h k d l = absurd (omega arith)
refs_set t u (x ∷ xs) zero r all h zero d l = h
refs_set t u (x ∷ xs) zero r all h (suc k) d l = all (suc k) d (omega arith)
refs_set t u (x ∷ xs) (suc i) r all h zero d l = all 0 d (omega arith)
refs_set t u (x ∷ xs) (suc i) r all h (suc k) d l = refs_set t u xs i r (λ j e m. all (suc j) e (omega arith)) h k d (omega arith)

-- ---- the call for a gate

-- what a call says of a cover over the bits of nodes
abbrev pub GivesCover : Store → Store → Cover → Result Ref OpFault → List NodeId → List Ref → Type 0
GivesCover t u cover result nodes refs =
    (b : ℕ → Function) → AreAt t b refs nodes → Built (cover_work (Some cover) (of_nodes b nodes)) (HasFunction (cover_function (Some cover) (of_nodes b nodes))) t u result

pub given_cover : (t u : Store) (cover : Cover) (result : Result Ref OpFault) (ids nodes : List NodeId) (items refs : List Ref) → ids ≡ nodes → items ≡ refs → GivesCover t u cover result ids items → GivesCover t u cover result nodes refs
given_cover t u cover result ids nodes items refs e f call =
    subst (λ (xs : List NodeId). GivesCover t u cover result xs refs) e (subst (λ (ys : List Ref). GivesCover t u cover result ids ys) f call)

-- its references are kept
pub call_keeps : (t u : Store) (cover : Cover) (result : Result Ref OpFault) (nodes : List NodeId) (refs : List Ref) → All (IsRef t) refs → All (λ node. node.0 < length refs) nodes → GivesCover t u cover result nodes refs → Keeps t u
call_keeps t u cover result nodes refs all inside call = (call (λ id. function t (net_ref refs id)) (own_at t refs nodes all inside)).spends.keeps

-- and its result is one
pub call_ref : (t u : Store) (cover : Cover) (r : Ref) (nodes : List NodeId) (refs : List Ref) → All (IsRef t) refs → All (λ node. node.0 < length refs) nodes → GivesCover t u cover (Ok r) nodes refs → IsRef u r
call_ref t u cover r nodes refs all inside call = (call (λ id. function t (net_ref refs id)) (own_at t refs nodes all inside)).ok.ref
