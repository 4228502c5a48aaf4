-- The net of the tests, two inputs, a latch of the one, and a gate, is sound.
use Rattle.std.proofs.Common.{◌≡◌, ◌≢◌, ◌<◌, ◌≤◌, ◌∙◌, ℕ, List, [], ◌∷◌, length, arith, sym, ap, subst}
use Rattle.std.specs.Prelude.{All, AllPairs, Some, slice_get}
use Rattle.std.proofs.lemmas.List.Elements.{All-nil, All-cons}
use Rattle.ste_base.specs.declared.id.NodeId.{NodeId}
use Rattle.net_core.specs.declared.cover.Cover.{Cover}
use Rattle.net_core.specs.declared.raw.Gate.{Gate}
use Rattle.net_core.specs.declared.raw.Latch.{Latch}
use Rattle.net_core.specs.declared.raw.RawNet.{RawNet}
use Rattle.net_core.specs.Cover.{IsCover}
use Rattle.net_core.specs.Flat.{IsInRange, HasOneDriver}

pub one : {X : Type 0} (P : X → Type 0) (xs : List X) (x : X) → xs ≡ x ∷ [] → P x → All P xs
one P xs x e h = subst (All P) (sym e) (All-cons P x [] h (All-nil P))

two : {X : Type 0} (P : X → Type 0) (xs : List X) (x y : X) → xs ≡ x ∷ y ∷ [] → P x → P y → All P xs
two P xs x y e h g = subst (All P) (sym e) (All-cons P x (y ∷ []) h (All-cons P y [] g (All-nil P)))

pairs : {X : Type 0} (R : X → X → Type 0) (xs : List X) → length xs < 2 → AllPairs R xs
pairs R xs few i j d l m = absurd (omega arith)

the_first : {X : Type 0} (xs : List X) (x y : X) → xs ≡ x ∷ [] → slice_get xs 0 ≡ Some y → x ≡ y
the_first xs x y e h =
    let at : slice_get (x ∷ []) 0 ≡ Some y = subst (λ ys. slice_get ys 0 ≡ Some y) e h in
    cc at

-- two inputs, one output, a gate of two inputs with its cover, and a latch
pub record IsSmall (net : RawNet) (input other output left right : NodeId) (gate : Gate) (cover : Cover)
    (latch : Latch) : Type 0 where
  pub nets : net.nets ≡ 4
  pub inputs : net.inputs ≡ input ∷ other ∷ []
  pub outputs : net.outputs ≡ output ∷ []
  pub gates : net.gates ≡ gate ∷ []
  pub latches : net.latches ≡ latch ∷ []
  pub covers : net.covers ≡ cover ∷ []
  pub first : input.0 ≡ 0
  pub third : other.0 ≡ 2
  pub second : output.0 ≡ 1
  pub from : latch.input.0 ≡ 0
  pub to : latch.output.0 ≡ 1
  pub gate_inputs : gate.inputs ≡ left ∷ right ∷ []
  pub gate_left : left.0 ≡ 1
  pub gate_right : right.0 ≡ 2
  pub gate_output : gate.output.0 ≡ 3
  pub gate_cover : gate.cover ≡ 0
  pub width : cover.inputs ≡ 2
  pub sound : IsCover cover

module _ (net : RawNet) (input other output left right : NodeId) (gate : Gate) (cover : Cover)
    (latch : Latch) (is : IsSmall net input other output left right gate cover latch) where
  below : (k n : ℕ) → k ≡ n → n < 4 → k < net.nets
  below k n e l = let nets = is.nets in omega arith

  -- what holds of both inputs, of the gate, and of the latch, holds of all
  of_inputs : (P : NodeId → Type 0) → P input → P other → All P net.inputs
  of_inputs P = two P net.inputs input other is.inputs

  of_gates : (P : Gate → Type 0) → P gate → All P net.gates
  of_gates P = one P net.gates gate is.gates

  of_latches : (P : Latch → Type 0) → P latch → All P net.latches
  of_latches P = one P net.latches latch is.latches

  pub latch_in_range : IsInRange net
  latch_in_range = record {
    inputs = of_inputs (λ i. i.0 < net.nets) (below input.0 0 is.first (omega arith))
        (below other.0 2 is.third (omega arith));
    outputs = one (λ i. i.0 < net.nets) net.outputs output is.outputs
        (below output.0 1 is.second (omega arith));
    gate_inputs = of_gates (λ g. All (λ i. i.0 < net.nets) g.inputs)
        (two (λ i. i.0 < net.nets) gate.inputs left right is.gate_inputs
        (below left.0 1 is.gate_left (omega arith)) (below right.0 2 is.gate_right (omega arith)));
    gate_outputs = of_gates (λ g. g.output.0 < net.nets)
        (below gate.output.0 3 is.gate_output (omega arith));
    latch_inputs = of_latches (λ l. l.input.0 < net.nets)
        (below latch.input.0 0 is.from (omega arith));
    latch_outputs = of_latches (λ l. l.output.0 < net.nets)
        (below latch.output.0 1 is.to (omega arith));
    covers = of_gates (λ g. g.cover < length net.covers)
        (let long = ap length is.covers in let zeroth = is.gate_cover in omega arith);
    sound = one IsCover net.covers cover is.covers is.sound;
    widths =
        of_gates (λ g. (c : Cover) → slice_get net.covers g.cover ≡ Some c → c.inputs ≡ length g.inputs)
        (λ c at.
        let first = subst (λ k. slice_get net.covers k ≡ Some c) is.gate_cover at in
        let same = the_first net.covers cover c is.covers first in
        ap (λ (x : Cover). x.inputs) (sym same) ∙ is.width ∙ sym (ap length is.gate_inputs));
  }

  drives : (k n : ℕ) → k ≡ n → n < 3 → gate.output.0 ≢ k
  drives k n e l same = let at = is.gate_output in absurd (omega arith)

  no_gate : (k n : ℕ) → k ≡ n → n < 3 → All (λ g. g.output.0 ≢ k) net.gates
  no_gate k n e l = of_gates (λ g. g.output.0 ≢ k) (drives k n e l)

  holds : (k n : ℕ) → k ≡ n → n ≢ 1 → latch.output.0 ≢ k
  holds k n e other same = other (sym e ∙ sym same ∙ is.to)

  no_latch : (k n : ℕ) → k ≡ n → n ≢ 1 → All (λ l. l.output.0 ≢ k) net.latches
  no_latch k n e other = of_latches (λ l. l.output.0 ≢ k) (holds k n e other)

  pub latch_one_driver : HasOneDriver net
  latch_one_driver =
      let gates = ap length is.gates in
      let latches = ap length is.latches in
      record {
        gates = pairs (λ a b. a.output.0 ≢ b.output.0) net.gates (omega arith);
        latches = pairs (λ a b. a.output.0 ≢ b.output.0) net.latches (omega arith);
        apart = of_latches (λ l. All (λ g. g.output.0 ≢ l.output.0) net.gates)
            (no_gate latch.output.0 1 is.to (omega arith));
        no_gate = of_inputs (λ i. All (λ g. g.output.0 ≢ i.0) net.gates)
            (no_gate input.0 0 is.first (omega arith)) (no_gate other.0 2 is.third (omega arith));
        no_latch = of_inputs (λ i. All (λ l. l.output.0 ≢ i.0) net.latches)
            (no_latch input.0 0 is.first (λ e. cc e)) (no_latch other.0 2 is.third (λ e. cc e));
      }

  pub few_inputs : All (λ g. length g.inputs ≤ 8) net.gates
  few_inputs = of_gates (λ g. length g.inputs ≤ 8) (let long = ap length is.gate_inputs in omega arith)
