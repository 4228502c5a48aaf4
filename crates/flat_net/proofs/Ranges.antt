-- The numbers of a flat net are in range.
use Rattle.std.proofs.Common.{◌≡◌, ℕ, zero, suc, ◌<◌, List, [], ◌∷◌, map, length, get_or, Option, None, Some, slice_get, arith, refl, sym, ap, ◌∙◌, subst}
use Rattle.std.specs.Prelude.{All, option_and_then}
use Rattle.std.proofs.lemmas.List.{length-map}
use Rattle.ste_base.specs.declared.id.NodeId.{NodeId}
use Rattle.net_core.specs.declared.cover.Cover.{Cover}
use Rattle.net_core.specs.declared.raw.Gate.{Gate}
use Rattle.net_core.specs.declared.raw.Latch.{Latch}
use Rattle.net_core.specs.declared.raw.RawNet.{RawNet}
use Rattle.net_core.specs.Cover.{IsCover}
use Rattle.net_core.specs.Flat.{IsInRange}
use Rattle.blif_syntax.specs.Covered.{AreCovered, IsCovered}
use Rattle.blif_syntax.specs.declared.models.Model.{Model}
use Rattle.blif_syntax.specs.declared.models.What.{What}
use Rattle.blif_syntax.specs.declared.models.What.TheVariants.{Inputs, Outputs, Clock, Names, Latch as LatchItem, Subckt}
use Rattle.hierarchy.specs.Lines.{GateLine, LatchLine, UseLine, gate_lines, gate_of, inputs_of, latch_lines, outputs_of, signals}
use Rattle.hierarchy.specs.Instances.{model_at, model_named, number_named, use_at}
use Rattle.hierarchy.specs.Nets.{gates, home, input_numbers, is_same_signal, latches, nets, number_at, output_numbers}
use Rattle.hierarchy.specs.Sizes.{IsShallow}
use Rattle.hierarchy.proofs.Members.{In, contains_from_in, filter_map_in, found, in_at, in_get, in_map, map_in, zip_left}
use Rattle.instances.proofs.Homes.{home_is_net, signal_itself, signal_same}
use Rattle.flat_net.specs.Flat.{IsFlat, IsGateOf, IsLatchOf}
use Rattle.flat_net.proofs.Corresponds.{gate_signals, latch_signals, of_instance}
use Rattle.flat_net.proofs.Flattened.{input_signal, output_signal, top_is}

-- nodes with these numbers are low where the numbers are
low_nodes : (n : ℕ) (nodes : List NodeId) (numbers : List ℕ) → map (λ (node : NodeId). node.0) nodes ≡ numbers → ((x : ℕ) → In numbers x → x < n) → All (λ node. node.0 < n) nodes
low_nodes n nodes numbers e low k d h = low (get_or nodes k d).0 (subst (λ l. In l (get_or nodes k d).0) e (in_map (λ (node : NodeId). node.0) nodes (get_or nodes k d) (in_at nodes k d h)))

-- a model of an instance is one of the models
model_among : (models : List Model) (path : List ℕ) (model : Model) → model_at models path ≡ Some model → In models model
model_among models [] model e = in_get models 0 model e
model_among models (n ∷ above) model e = by (use_at (model_at models above) n) e
  where
    of : (o : Option ℕ) → option_and_then (slice_get models) o ≡ Some model → In models model
    of None e = absurd (cc)
    of (Some k) e = in_get models k model e

    by : (o : Option UseLine) → option_and_then (λ used. model_named models used.model) o ≡ Some model → In models model
    by None e = absurd (cc)
    by (Some used) e = of (number_named models used.model) e

-- what holds of all holds of one of them
pub all_in : {X : Type 0} (P : X → Type 0) (xs : List X) (x : X) → All P xs → In xs x → P x
all_in P xs x all h = let c = contains_from_in xs x h in subst P c.2 (all c.0 x c.1)

covered_gate : (what : What) (gate : GateLine) → gate_of what ≡ Some gate → IsCovered what → gate.cover.inputs ≡ length gate.inputs
covered_gate (Names inputs output cover) gate e is = let i : inputs ≡ gate.inputs = cc in let c : cover ≡ gate.cover = cc in sym (ap (λ (x : Cover). x.inputs) c) ∙ is.0 ∙ ap (λ l. length l) i
covered_gate (Inputs _) gate e is = absurd (cc)
covered_gate (Outputs _) gate e is = absurd (cc)
covered_gate (Clock _) gate e is = absurd (cc)
covered_gate (LatchItem _ _ _ _ _) gate e is = absurd (cc)
covered_gate (Subckt _ _) gate e is = absurd (cc)

below_get : {X : Type 0} (xs : List X) (k : ℕ) (x : X) → slice_get xs k ≡ Some x → k < length xs
below_get [] k x e = absurd (cc)
below_get (y ∷ xs) zero x e = omega arith
below_get (y ∷ xs) (suc k) x e = let r = below_get xs k x e in omega arith

module _ (models : List Model) (net : RawNet) (shallow : IsShallow models) (flat : IsFlat models net) where
  number_low : (path : List ℕ) (model : Model) (signal : List ℕ) → model_at models path ≡ Some model → In (signals model) signal → number_at models path signal < net.nets
  number_low path model signal has h =
      let p = home models path signal in
      let low = found (λ net. is_same_signal p net) p (signal_itself p) (λ net same. signal_same p net same) (nets models) (home_is_net models shallow path model signal has h) in
      let count = flat.nets in
      omega (arith, low, count)

  gate_at : (gate : Gate) → In net.gates gate → (at : List ℕ × GateLine) × IsGateOf models net gate at × (model : Model) × (model_at models at.0 ≡ Some model) × In (gate_lines model) at.1
  gate_at gate h =
      let z = zip_left (IsGateOf models net) net.gates (gates models) gate flat.gates h in
      let m = of_instance gate_lines models z.0 z.1 in
      (z.0, z.2, m.0, m.1, m.2)

  latch_at : (latch : Latch) → In net.latches latch → (at : List ℕ × LatchLine) × IsLatchOf models latch at × (model : Model) × (model_at models at.0 ≡ Some model) × In (latch_lines model) at.1
  latch_at latch h =
      let z = zip_left (IsLatchOf models) net.latches (latches models) latch flat.latches h in
      let m = of_instance latch_lines models z.0 z.1 in
      (z.0, z.2, m.0, m.1, m.2)

  low_words : (path : List ℕ) (model : Model) → model_at models path ≡ Some model → (words : List (List ℕ)) → ((word : List ℕ) → In words word → In (signals model) word) → (x : ℕ) → In (map (λ word. number_at models path word) words) x → x < net.nets
  low_words path model has words within x h = let r = map_in (λ word. number_at models path word) words x h in subst (λ n. n < net.nets) r.2 (number_low path model r.0 has (within r.0 r.1))

  module _ (model : Model) (has : slice_get models 0 ≡ Some model) (covered : AreCovered models) (sound : All IsCover net.covers) where
    pub in_range : IsInRange net
    in_range = record {
      inputs = low_nodes net.nets net.inputs (input_numbers models) flat.inputs (subst (λ m. (x : ℕ) → In (map (λ word. number_at models [] word) (inputs_of m)) x → x < net.nets) (sym (top_is models model has)) (low_words [] model has (inputs_of model) (input_signal model)));
      outputs = low_nodes net.nets net.outputs (output_numbers models) flat.outputs (subst (λ m. (x : ℕ) → In (map (λ word. number_at models [] word) (outputs_of m)) x → x < net.nets) (sym (top_is models model has)) (low_words [] model has (outputs_of model) (output_signal model)));
      gate_inputs = λ k d h. let g = gate_at (get_or net.gates k d) (in_at net.gates k d h) in let words = gate_signals g.2 g.0.1 g.4 in
          low_nodes net.nets (get_or net.gates k d).inputs (map (λ word. number_at models g.0.0 word) g.0.1.inputs) g.1.inputs (low_words g.0.0 g.2 g.3 g.0.1.inputs words.1);
      gate_outputs = λ k d h. let g = gate_at (get_or net.gates k d) (in_at net.gates k d h) in let words = gate_signals g.2 g.0.1 g.4 in
          subst (λ n. n < net.nets) (sym g.1.output) (number_low g.0.0 g.2 g.0.1.output g.3 words.0);
      latch_inputs = λ k d h. let g = latch_at (get_or net.latches k d) (in_at net.latches k d h) in let words = latch_signals g.2 g.0.1 g.4 in
          subst (λ n. n < net.nets) (sym g.1.input) (number_low g.0.0 g.2 g.0.1.input g.3 words.1);
      latch_outputs = λ k d h. let g = latch_at (get_or net.latches k d) (in_at net.latches k d h) in let words = latch_signals g.2 g.0.1 g.4 in
          subst (λ n. n < net.nets) (sym g.1.output) (number_low g.0.0 g.2 g.0.1.output g.3 words.0);
      covers = λ k d h. let g = gate_at (get_or net.gates k d) (in_at net.gates k d h) in below_get net.covers (get_or net.gates k d).cover g.0.1.cover g.1.cover;
      sound = sound;
      widths = λ k d h cover at. let g = gate_at (get_or net.gates k d) (in_at net.gates k d h) in
          let line = filter_map_in (λ item. gate_of item.what) g.2.items g.0.1 g.4 in
          let is = all_in (λ item. IsCovered item.what) g.2.items line.0 (all_in (λ m. All (λ item. IsCovered item.what) m.items) models g.2 covered (model_among models g.0.0 g.2 g.3)) line.1 in
          ap (λ (c : Cover). c.inputs) (same cover g.0.1.cover (sym at ∙ g.1.cover)) ∙ covered_gate line.0.what g.0.1 line.2 is
          ∙ sym (length-map g.0.1.inputs (λ input. number_at models g.0.0 input)) ∙ ap (λ l. length l) (sym g.1.inputs) ∙ length-map (get_or net.gates k d).inputs (λ input. input.0);
    }
      where
        same : (a b : Cover) → Some a ≡ Some b → a ≡ b
        same a b e = cc

pub ranges : (models : List Model) (net : RawNet) → IsShallow models → IsFlat models net → 0 < length models → AreCovered models → All IsCover net.covers → IsInRange net
ranges [] net shallow flat some covered sound = absurd (omega arith)
ranges (m ∷ models) net shallow flat some covered sound = in_range (m ∷ models) net shallow flat m refl covered sound
