-- The bits of one time, got from those of another: gates that are not due stay at rest, and where none is due the bits are those that
-- sources and latches determine.
use Rattle.std.proofs.Common.{◌≡◌, ◌≢◌, ℕ, zero, suc, ◌+◌, ◌<◌, ◌≤◌, Bool, true, false, List, [], ◌∷◌, length, map, get_or, set, replicate, arith, sym, ap, refl, subst, ◌∙◌, inl, inr, eq-eqb, ne_eqb, length-set, get_or-set_same, get_or-set_other}
use Rattle.std.specs.Prelude.{All, AllPairs, Option, Some, slice_get}
use Rattle.std.specs.List.{AllZip}
use Rattle.std.proofs.Math.Bool.{beq}
use Rattle.std.proofs.lemmas.Bool.{cases_eq, cases_lt, true≢false}
use Rattle.std.proofs.lemmas.List.{get_or_default, get_or-map, get_or-replicate, length-map}
use Rattle.std.proofs.lemmas.List.Elements.{All-map}
use Rattle.ste_base.specs.declared.id.NodeId.{NodeId}
use Rattle.net_core.specs.declared.cover.Cover.{Cover}
use Rattle.net_core.specs.declared.raw.Gate.{Gate}
use Rattle.net_core.specs.declared.raw.Init.TheVariants.{Zero}
use Rattle.net_core.specs.declared.raw.Latch.{Latch}
use Rattle.net_core.specs.declared.raw.RawNet.{RawNet}
use Rattle.net_core.specs.Cover.{cover_bit}
use Rattle.net_core.specs.Flat.{HasOneDriver, IsInRange, IsSettledOrder}
use Rattle.net_core.specs.Run.{AreGateBits, IsUndriven, bit_of, gate_bit}
use Rattle.net_core.proofs.Ordered.{place_of, settled_by_order}
use Rattle.net_core.proofs.Runs.{same_run}
use Rattle.clock_step.specs.Simulation.{bit_in}
use Rattle.clock_step.specs.private.Readers.{AreMarked, IsNoInput, gate_at}
use Rattle.clock_step.specs.private.Resettled.{AreFirstPlaced, AreInputsKept, AreTurned, IsEverySource, IsPlaced}
use Rattle.clock_step.specs.Resting.{AreAtRest, IsAtRest}
use Rattle.clock_step.specs.Determined.{AreBits, AreDetermined, bit_at}
use Rattle.clock_step.proofs.Settling.{bits_known}

-- ---- one net

same_bit : (one other : Bool) → beq one other ≡ true → one ≡ other
same_bit true true e = refl
same_bit true false e = absurd (cc e)
same_bit false true e = absurd (cc e)
same_bit false false e = refl

-- a bit that is as it was
pub placed_same : (net : RawNet) (order : List ℕ) (id : ℕ) (bit : Bool) (bits due : List Bool) → beq (bit_at bits id) bit ≡ true → IsPlaced net order id bit bits bits due due
placed_same net order id bit bits due is = record {
  long = refl;
  dues = refl;
  here = same_bit (bit_at bits id) bit is;
  others = λ i other. refl;
  unmarked = λ k d l h. (h, λ i e m. refl);
  kept = λ k d none. refl;
}

-- another bit, with the gates that read it marked
pub placed_new : (net : RawNet) (order : List ℕ) (id : ℕ) (bit : Bool) (bits due due' : List Bool) → id < length bits → AreMarked net order id due due' → IsPlaced net order id bit bits (set bits id bit) due due'
placed_new net order id bit bits due due' l marked = record {
  long = length-set bits id bit;
  dues = marked.long;
  here = get_or-set_same bits id bit false l;
  others = λ i other. get_or-set_other bits id i bit false other;
  unmarked = λ k d m h. let at = marked.unmarked k d m h in (at.0, λ i e n. get_or-set_other bits id (get_or (gate_at net order k d).inputs i e).0 bit false (at.1 i e n));
  kept = marked.kept;
}

-- a gate whose inputs and output keep their bits stays at rest
rest_kept : (net : RawNet) (old new : List Bool) (gate : Gate) → bit_at new gate.output.0 ≡ bit_at old gate.output.0 → AreInputsKept old new gate → IsAtRest net old gate → IsAtRest net new gate
rest_kept net old new gate output inputs rest =
    output ∙ rest ∙ sym (ap (gate_bit net gate) (bits_known (λ (input : NodeId). input.0) (bit_at new) (bit_at old) gate.inputs inputs))

module _ (net : RawNet) (order : List ℕ) (is_order : IsSettledOrder net order) where
  -- a gate of the order, by its number
  number_in : (k : ℕ) → k < length order → get_or order k 0 < length net.gates
  number_in k l = is_order.gates k 0 l

  -- ---- nets that no gate drives

  pub nodes_begin : (nodes : List NodeId) (row bits due : List Bool) → length bits ≡ net.nets → length due ≡ length order → AreAtRest net order due bits → AreFirstPlaced net order nodes 0 row bits bits due
  nodes_begin nodes row bits due long dues rest = record {
    long = long;
    dues = dues;
    rest = rest;
    placed = λ k d l. absurd (omega (arith, l));
    others = λ id none. refl;
  }

  pub node_placed : (nodes : List NodeId) (n : ℕ) (node : NodeId) (row old bits new due due' : List Bool) (b : Bool) → n < length nodes → node ≡ get_or nodes n node → b ≡ get_or row n false → AllPairs (λ one other. one.0 ≢ other.0) nodes
      → All (λ x. All (λ gate. gate.output.0 ≢ x.0) net.gates) nodes → AreFirstPlaced net order nodes n row old bits due → IsPlaced net order node.0 b bits new due due' → AreFirstPlaced net order nodes (n + 1) row old new due'
  node_placed nodes n node row old bits new due due' b l is b_is apart by_gate before one =
      let undriven : All (λ gate. gate.output.0 ≢ node.0) net.gates = subst (λ (x : NodeId). All (λ gate. gate.output.0 ≢ x.0) net.gates) (sym is) (by_gate n node l) in
      record {
        long = one.long ∙ before.long;
        dues = one.dues ∙ before.dues;
        rest = λ k d m h.
            let at = one.unmarked k d m h in
            rest_kept net bits new (gate_at net order k d) (one.others (gate_at net order k d).output.0 (undriven (get_or order k 0) d (number_in k m))) at.1 (before.rest k d m at.0);
        placed = λ k d m. elim (cases_lt k n) [
          | inl early ↦
              one.others (get_or nodes k d).0 (λ e. apart k n d early l (e ∙ ap (λ (x : NodeId). x.0) (is ∙ get_or_default nodes n node d l))) ∙ before.placed k d early
          | inr late ↦
              let same : k ≡ n = omega (arith, m, late) in
              ap (λ (i : ℕ). bit_at new (get_or nodes i d).0) same ∙ ap (λ (x : NodeId). bit_at new x.0) (get_or_default nodes n d node l ∙ sym is) ∙ one.here ∙ b_is ∙ ap (bit_at row) (sym same)
        ];
        others = λ id none. one.others id (λ e. none n node l (ap (λ (x : NodeId). x.0) (sym is) ∙ sym e)) ∙ before.others id none;
      }

  -- ---- gates

  -- gates of different numbers drive different nets
  outputs_differ : (one : HasOneDriver net) (i j : ℕ) (d : Gate) → i < length net.gates → j < length net.gates → i ≢ j → (get_or net.gates i d).output.0 ≢ (get_or net.gates j d).output.0
  outputs_differ one i j d l m other same = elim (cases_lt i j) [
    | inl below ↦ one.gates i j d below m same
    | inr above ↦ elim (cases_eq i j) [
      | inl equal ↦ other equal
      | inr apart ↦ one.gates j i d (omega (arith, above, apart)) l (sym same)
    ]
  ]

  -- a gate that was due
  pub turn_done : (one : HasOneDriver net) (n : ℕ) (gate : Gate) (cover : Cover) (inputs : List Bool) (b : Bool) (begun bits new due due' : List Bool) → n < length order → gate ≡ get_or net.gates (get_or order n 0) gate
      → slice_get net.covers gate.cover ≡ Some cover → inputs ≡ map (λ input. bit_at bits input.0) gate.inputs → b ≡ cover_bit cover inputs → IsPlaced net order gate.output.0 b bits new (set due n false) due' → AreTurned net order n begun bits due
      → AreTurned net order (n + 1) begun new due'
  turn_done one n gate cover inputs b begun bits new due due' l is covers are gives placed before =
      let gates : (d : Gate) → gate_at net order n d ≡ gate = λ d. get_or_default net.gates (get_or order n 0) d gate (number_in n l) ∙ sym is in
      let function : b ≡ gate_bit net gate (map (λ input. bit_at bits input.0) gate.inputs) =
      gives ∙ ap (λ (o : Option Cover). bit_of o inputs) (sym covers) ∙ ap (gate_bit net gate) are in
      let behind : (k : ℕ) → k ≤ n → IsNoInput gate.output.0 (gate_at net order k gate) = λ k le.
      subst (λ (x : Gate). IsNoInput x.output.0 (gate_at net order k gate)) (gates gate) (is_order.behind k n gate le l) in
      record {
        long = placed.long ∙ before.long;
        dues = placed.dues ∙ length-set due n false ∙ before.dues;
        past = λ k m. elim (cases_lt k n) [
          | inl early ↦ placed.kept k gate (behind k (omega (arith, early))) ∙ get_or-set_other due n k false false (λ e. absurd (omega (arith, e, early))) ∙ before.past k early
          | inr late ↦
              let same : k ≡ n = omega (arith, m, late) in
              placed.kept k gate (behind k (omega (arith, same))) ∙ ap (λ (i : ℕ). get_or (set due n false) i false) same ∙ get_or-set_same due n false false (let h = before.dues in omega (arith, h, l))
        ];
        rest = λ k d m h.
            let at = placed.unmarked k d m h in
            elim (cases_eq (get_or order k 0) (get_or order n 0)) [
              | inl same ↦
                  let is_gate : gate_at net order k d ≡ gate = ap (λ (i : ℕ). get_or net.gates i d) same ∙ gates d in
                  let kept : AreInputsKept bits new gate = subst (AreInputsKept bits new) is_gate at.1 in
                  subst (IsAtRest net new) (sym is_gate)
                  (placed.here ∙ function ∙ sym (ap (gate_bit net gate) (bits_known (λ (input : NodeId). input.0) (bit_at new) (bit_at bits) gate.inputs kept)))
              | inr other ↦
                  rest_kept net bits new (gate_at net order k d)
                  (placed.others (gate_at net order k d).output.0 (λ e. outputs_differ one (get_or order k 0) (get_or order n 0) d (number_in k m) (number_in n l) other (e ∙ ap (λ (x : Gate). x.output.0) (sym (gates d)))))
                  at.1 (before.rest k d m (sym (get_or-set_other due n k false false (λ e. other (ap (λ (i : ℕ). get_or order i 0) e))) ∙ at.0))
            ];
        others = λ id none. placed.others id (λ e. none (get_or order n 0) gate (number_in n l) (ap (λ (x : Gate). x.output.0) (gates gate) ∙ sym e)) ∙ before.others id none;
      }

  -- ---- all nets

  -- behind the last place no mark is left
  pub none_left : (begun bits due : List Bool) → AreTurned net order (length order) begun bits due → All (λ mark. mark ≡ false) due
  none_left begun bits due turned k d l = get_or_default due k d false l ∙ turned.past k (let h = turned.dues in omega (arith, h, l))

  -- where no gate is due all gates have their bits
  pub all_at_rest : (begun bits due : List Bool) → AreTurned net order (length order) begun bits due → AreGateBits net (bit_at bits)
  all_at_rest begun bits due turned g d l =
      let place = place_of order g (is_order.every g l) in
      subst (λ (i : ℕ). IsAtRest net bits (get_or net.gates i d)) place.2 (turned.rest place.0 d place.1 (turned.past place.0 place.1))

-- the bit of a node in a row
bit_in_row : (nodes : List NodeId) (row bits : List Bool) (id k : ℕ) → length row ≡ length nodes → ((i : ℕ) (d : NodeId) → i < length nodes → bit_at bits (get_or nodes i d).0 ≡ get_or row i false) → k < length nodes → ((d : NodeId) → (get_or nodes k d).0 ≡ id) → bit_in nodes row id ≡ bit_at bits id
bit_in_row [] row bits id k wide placed l at = absurd (omega (arith, l))
bit_in_row (node ∷ nodes) [] bits id k wide placed l at = absurd (omega (arith, wide))
bit_in_row (node ∷ nodes) (b ∷ row) bits id zero wide placed l at = rw (eq-eqb node.0 id (at node)) (sym (placed 0 node (omega arith)) ∙ ap (bit_at bits) (at node))
bit_in_row (node ∷ nodes) (b ∷ row) bits id (suc k) wide placed l at = elim (cases_eq node.0 id) [
  | inl same ↦ rw (eq-eqb node.0 id same) (sym (placed 0 node (omega arith)) ∙ ap (bit_at bits) same)
  | inr other ↦ rw (ne_eqb node.0 id other) (bit_in_row nodes row bits id k (omega (arith, wide)) (λ i d n. placed (suc i) d (omega (arith, n))) (omega (arith, l)) at)
]

zip_map : (one other : ℕ → Bool) (latches : List Latch) → All (λ latch. one latch.output.0 ≡ other latch.output.0) latches → AllZip (λ latch bit. one latch.output.0 ≡ bit) latches (map (λ latch. other latch.output.0) latches)
zip_map one other [] all = tt
zip_map one other (latch ∷ latches) all = (all 0 latch (omega arith), zip_map one other latches (λ k d l. all (suc k) d (omega (arith, l))))

-- bits that follow the gates, and agree where no gate drives, agree on all nets
agree : (net : RawNet) (order : List ℕ) → IsInRange net → IsSettledOrder net order → (one other : ℕ → Bool) → AreGateBits net one → AreGateBits net other → ((id : ℕ) → id < net.nets → IsUndriven net id → one id ≡ other id)
    → All (λ latch. one latch.output.0 ≡ other latch.output.0) net.latches → (id : ℕ) → id < net.nets → one id ≡ other id
agree net order range is_order one other a b sources latches id l =
    same_run net range (settled_by_order net order is_order) (λ t. other) (map (λ latch. other latch.output.0) net.latches) 1 (λ t. one) (λ t. other)
    (record { is_run = record { gates = λ t m. a; latches = λ t m. absurd (omega (arith, m)) }; sources = λ t k m h none. sources k h none; starts = λ m. zip_map one other net.latches latches })
    (record { is_run = record { gates = λ t m. b; latches = λ t m. absurd (omega (arith, m)) }; sources = λ t k m h none. refl; starts = λ m. zip_map other other net.latches (λ k d h. refl) })
    0 id (omega arith) l

-- the bits of all nets, where those of sources and latch outputs are placed and no gate is due
pub all_bits : (net : RawNet) (order : List ℕ) → IsInRange net → HasOneDriver net → IsSettledOrder net order
    → (nodes outputs : List NodeId) (row held old first second bits due one two : List Bool) → All (λ node. IsUndriven net node.0) nodes → IsEverySource net nodes → length row ≡ length nodes → outputs ≡ map (λ latch. latch.output) net.latches
    → AreFirstPlaced net order nodes (length nodes) row old first one → AreFirstPlaced net order outputs (length outputs) held first second two → AreTurned net order (length order) second bits due
    → (bit : ℕ → Bool) → AreDetermined net nodes row held bit → AreBits net bit bits
all_bits net order range driver is_order nodes outputs row held old first second bits due one two undriven every wide outputs_are sources latches turned bit is id l =
    agree net order range is_order (bit_at bits) bit (all_at_rest net order is_order second bits due turned) is.gates
    (λ i m none.
    let at = every i m none in
    sym (bit_in_row nodes row bits i at.0 wide
    (λ k d h.
    let free = undriven k d h in
    turned.others (get_or nodes k d).0 free.by_gate
    ∙ latches.others (get_or nodes k d).0 (subst (λ (xs : List NodeId). All (λ node. node.0 ≢ (get_or nodes k d).0) xs) (sym outputs_are) (All-map (λ (node : NodeId). node.0 ≢ (get_or nodes k d).0) (λ (latch : Latch). latch.output) net.latches free.by_latch))
    ∙ sources.placed k d h)
    at.1 at.2) ∙ sym (is.given i m none))
    (λ k d m.
    let size : k < length outputs = subst (λ (xs : List NodeId). k < length xs) (sym outputs_are) (subst (λ (n : ℕ). k < n) (sym (length-map net.latches (λ (latch : Latch). latch.output))) m) in
    let output : (get_or outputs k (get_or net.latches k d).output) ≡ (get_or net.latches k d).output = ap (λ (xs : List NodeId). get_or xs k (get_or net.latches k d).output) outputs_are ∙ get_or-map (λ (latch : Latch). latch.output) net.latches k d (get_or net.latches k d).output m in
    turned.others (get_or net.latches k d).output.0 (driver.apart k d m)
    ∙ ap (λ (x : NodeId). bit_at second x.0) (sym output) ∙ latches.placed k (get_or net.latches k d).output size
    ∙ ap (λ (h : List Bool). get_or h k false) is.latches ∙ get_or-map (λ (latch : Latch). bit latch.output.0) net.latches k d false m)
    id l

-- ---- the outputs of the latches, as nodes

module _ (net : RawNet) (outputs : List NodeId) (are : outputs ≡ map (λ latch. latch.output) net.latches) where
  pub outputs_known : IsInRange net → All (λ node. node.0 < net.nets) outputs
  outputs_known range = subst (λ (xs : List NodeId). All (λ node. node.0 < net.nets) xs) (sym are) (All-map (λ (node : NodeId). node.0 < net.nets) (λ (latch : Latch). latch.output) net.latches range.latch_outputs)

  pub outputs_by_latch : HasOneDriver net → All (λ node. All (λ gate. gate.output.0 ≢ node.0) net.gates) outputs
  outputs_by_latch driver =
      subst (λ (xs : List NodeId). All (λ node. All (λ gate. gate.output.0 ≢ node.0) net.gates) xs) (sym are)
      (All-map (λ (node : NodeId). All (λ gate. gate.output.0 ≢ node.0) net.gates) (λ (latch : Latch). latch.output) net.latches driver.apart)

  pub outputs_apart : HasOneDriver net → AllPairs (λ one other. one.0 ≢ other.0) outputs
  outputs_apart driver = subst (λ (xs : List NodeId). AllPairs (λ one other. one.0 ≢ other.0) xs) (sym are) (λ i j d l m same.
      let zeroth : Latch = record { input = record { 0 = 0 }; output = record { 0 = 0 }; init = Zero } in
      let size = length-map net.latches (λ (latch : Latch). latch.output) in
      let inside : j < length net.latches = omega (arith, m, size) in
      let first = get_or-map (λ (latch : Latch). latch.output) net.latches i zeroth d (omega (arith, l, inside)) in
      let second = get_or-map (λ (latch : Latch). latch.output) net.latches j zeroth d inside in
      driver.latches i j zeroth l inside (ap (λ (x : NodeId). x.0) (sym first) ∙ same ∙ ap (λ (x : NodeId). x.0) second))

-- where each gate is due
pub all_due : (net : RawNet) (order : List ℕ) (due bits : List Bool) → due ≡ replicate (length order) true → AreAtRest net order due bits
all_due net order due bits is k d l h = absurd (true≢false (sym (ap (λ (xs : List Bool). get_or xs k false) is ∙ get_or-replicate (length order) k true false l) ∙ h))
