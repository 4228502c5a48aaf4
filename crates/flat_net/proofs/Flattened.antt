-- The parts of a flat net, instance by instance, are those of the hierarchy.
use Rattle.std.proofs.Common.{◌≡◌, ℕ, zero, suc, ◌+◌, ◌<◌, ◌≤◌, List, [], ◌∷◌, ◌++◌, map, length, Some, slice_get, get_or, arith, refl, sym, ap, ◌∙◌, subst, inl, inr}
use Rattle.std.specs.Prelude.{All, flat_map, bytes_eq}
use Rattle.std.specs.List.{AllZip}
use Rattle.ste_base.specs.declared.id.NodeId.{NodeId}
use Rattle.net_core.specs.declared.cover.Cover.{Cover}
use Rattle.net_core.specs.declared.raw.RawNet.{RawNet}
use Rattle.indexmap.specs.IndexSet.{insert_all}
use Rattle.blif_syntax.specs.declared.models.Model.{Model}
use Rattle.blif_syntax.specs.declared.models.What.{What}
use Rattle.blif_syntax.specs.declared.models.What.TheVariants.{Inputs, Outputs, Clock, Names, Latch as LatchItem, Subckt}
use Rattle.hierarchy.specs.Lines.{GateLine, LatchLine, gate_lines, input_words, inputs_of, latch_lines, output_words, outputs_of, signal_words, signals, top}
use Rattle.hierarchy.specs.Instances.{had_by, instances, model_at}
use Rattle.hierarchy.specs.Nets.{gates, input_numbers, latches, nets, number_at}
use Rattle.hierarchy.proofs.Members.{In, flat_map_in}
use Rattle.instances.specs.Numbers.{number_of}
use Rattle.instances.proofs.Homes.{is_signal}
use Rattle.hierarchy.proofs.Sets.{set_in}
use Rattle.instances.proofs.Rows.{number_among}
use Rattle.flat_net.specs.Flat.{IsFlat, IsGateOf, IsLatchOf}
use Rattle.flat_net.specs.private.Passes.{AreInstances, HasCovers, Instance, IsInstance, gates_from, gates_in, latch_in, latches_in, node_in}
use Rattle.flat_net.proofs.Corresponds.{gate_signals, latch_signals}

-- lists of lists zip where their parts do
zip_append : {A B : Type 0} (R : A → B → Type 0) (xs xs' : List A) (ys ys' : List B) → AllZip R xs ys → AllZip R xs' ys' → AllZip R (xs ++ xs') (ys ++ ys')
zip_append R [] xs' [] ys' z w = w
zip_append R [] xs' (y ∷ ys) ys' z w = absurd z
zip_append R (x ∷ xs) xs' [] ys' z w = absurd z
zip_append R (x ∷ xs) xs' (y ∷ ys) ys' z w = (z.0, zip_append R xs xs' ys ys' z.1 w)

pub zip_flat_map : {A B C D : Type 0} (R : A → B → Type 0) (S : C → D → Type 0) (f : A → List C) (g : B → List D) → ((a : A) (b : B) → R a b → AllZip S (f a) (g b)) → (xs : List A) (ys : List B) → AllZip R xs ys → AllZip S (flat_map f xs) (flat_map g ys)
zip_flat_map R S f g each [] [] z = tt
zip_flat_map R S f g each [] (y ∷ ys) z = absurd z
zip_flat_map R S f g each (x ∷ xs) [] z = absurd z
zip_flat_map R S f g each (x ∷ xs) (y ∷ ys) z = zip_append S (f x) (flat_map f xs) (g y) (flat_map g ys) (each x y z.0) (zip_flat_map R S f g each xs ys z.1)

map_in_same : {X Y : Type 0} (f g : X → Y) (xs : List X) → ((x : X) → In xs x → f x ≡ g x) → map f xs ≡ map g xs
map_in_same f g [] h = refl
map_in_same f g (x ∷ xs) h = ap (λ y. y ∷ map f xs) (h x (inl refl)) ∙ ap (λ l. g x ∷ l) (map_in_same f g xs (λ y i. h y (inr i)))

map_map : {X Y Z : Type 0} (f : X → Y) (g : Y → Z) (xs : List X) → map g (map f xs) ≡ map (λ x. g (f x)) xs
map_map f g [] = refl
map_map f g (x ∷ xs) = ap (λ l. g (f x) ∷ l) (map_map f g xs)

module _ (models : List Model) (covers : List Cover) (instance : Instance) (path : List ℕ) (is : IsInstance models covers instance path) where
  -- a signal's node is that of its net
  pub node_is : (word : List ℕ) → In (signals instance.model) word → (node_in instance word).0 ≡ number_at models path word
  node_is word h =
      ap (λ names. number_of names instance.numbers word) is.names
      ∙ ap (λ numbers. number_of (signals instance.model) numbers word) is.numbers
      ∙ ap (λ m. number_of (signals instance.model) (map (λ signal. number_at models path signal) (had_by signals m)) word) is.model
      ∙ number_among (λ signal. number_at models path signal) (signals instance.model) word h

  pub nodes_are : (words : List (List ℕ)) → ((word : List ℕ) → In words word → In (signals instance.model) word) → map (λ (node : NodeId). node.0) (map (node_in instance) words) ≡ map (λ word. number_at models path word) words
  nodes_are words within = map_map (node_in instance) (λ (node : NodeId). node.0) words ∙ map_in_same (λ word. (node_in instance word).0) (λ word. number_at models path word) words (λ word h. node_is word (within word h))

  module _ (net : RawNet) (its : net.covers ≡ covers) where
    gates_zip : (lines : List GateLine) (cover : ℕ) → ((line : GateLine) → In lines line → In (gate_lines instance.model) line) → HasCovers covers cover lines → AllZip (IsGateOf models net) (gates_from instance cover lines) (map (λ line. (path, line)) lines)
    gates_zip [] cover within has = tt
    gates_zip (line ∷ lines) cover within has =
        let words = gate_signals instance.model line (within line (inl refl)) in (
          record {
            output = node_is line.output words.0;
            inputs = nodes_are line.inputs words.1;
            cover = ap (λ l. slice_get l cover) its ∙ ap (λ k. slice_get covers k) (first cover) ∙ has 0 line refl;
          },
          gates_zip lines (suc cover) (λ l h. within l (inr h)) (λ i l e. ap (λ k. slice_get covers k) (shift cover i) ∙ has (suc i) l e),
        )
      where
        first : (a : ℕ) → a ≡ a + 0
        first a = omega arith

        shift : (a i : ℕ) → suc a + i ≡ a + suc i
        shift a i = omega arith

    pub instance_gates : AllZip (IsGateOf models net) (gates_in instance) (map (λ line. (path, line)) (had_by gate_lines (model_at models path)))
    instance_gates = subst (λ m. AllZip (IsGateOf models net) (gates_in instance) (map (λ line. (path, line)) (had_by gate_lines m))) (sym is.model) (gates_zip (gate_lines instance.model) instance.cover (λ line h. h) is.has_covers.has)

  latches_zip : (lines : List LatchLine) → ((line : LatchLine) → In lines line → In (latch_lines instance.model) line) → AllZip (IsLatchOf models) (map (latch_in instance) lines) (map (λ line. (path, line)) lines)
  latches_zip [] within = tt
  latches_zip (line ∷ lines) within =
      let words = latch_signals instance.model line (within line (inl refl)) in
      (record { input = node_is line.input words.1; output = node_is line.output words.0; init = refl }, latches_zip lines (λ l h. within l (inr h)))

  pub instance_latches : AllZip (IsLatchOf models) (latches_in instance) (map (λ line. (path, line)) (had_by latch_lines (model_at models path)))
  instance_latches = subst (λ m. AllZip (IsLatchOf models) (latches_in instance) (map (λ line. (path, line)) (had_by latch_lines m))) (sym is.model) (latches_zip (latch_lines instance.model) (λ line h. h))

-- words of lines that are words of signals are signals
module _ (model : Model) (words : What → List (List ℕ)) (within : (what : What) (x : List ℕ) → In (words what) x → In (signal_words what) x) where
  mentioned : (x : List ℕ) → In (insert_all bytes_eq [] (flat_map (λ item. words item.what) model.items)) x → In (signals model) x
  mentioned x h = elim (set_in (flat_map (λ item. words item.what) model.items) [] x h) as (λ _. In (signals model) x) [
    | inl none ↦ absurd none
    | inr among ↦ let r = flat_map_in (λ item. words item.what) model.items x among in is_signal model r.0 x r.1 (within r.0.what x r.2)
  ]

inputs_within : (what : What) (x : List ℕ) → In (input_words what) x → In (signal_words what) x
inputs_within (Inputs names) x h = h
inputs_within (Clock names) x h = h
inputs_within (Outputs names) x h = absurd h
inputs_within (Names _ _ _) x h = absurd h
inputs_within (LatchItem _ _ _ _ _) x h = absurd h
inputs_within (Subckt _ _) x h = absurd h

outputs_within : (what : What) (x : List ℕ) → In (output_words what) x → In (signal_words what) x
outputs_within (Outputs names) x h = h
outputs_within (Inputs names) x h = absurd h
outputs_within (Clock names) x h = absurd h
outputs_within (Names _ _ _) x h = absurd h
outputs_within (LatchItem _ _ _ _ _) x h = absurd h
outputs_within (Subckt _ _) x h = absurd h

pub top_is : (models : List Model) (model : Model) → slice_get models 0 ≡ Some model → top models ≡ model
top_is [] model e = absurd (cc)
top_is (m ∷ models) model e = cc

pub input_signal : (model : Model) (word : List ℕ) → In (inputs_of model) word → In (signals model) word
input_signal model word h = mentioned model input_words inputs_within word h

pub output_signal : (model : Model) (word : List ℕ) → In (outputs_of model) word → In (signals model) word
output_signal model word h = mentioned model output_words outputs_within word h

pub top_inputs : (models : List Model) (covers : List Cover) (first : Instance) → IsInstance models covers first [] → map (λ (node : NodeId). node.0) (map (node_in first) (inputs_of first.model)) ≡ input_numbers models
top_inputs models covers first is = nodes_are models covers first [] is (inputs_of first.model) (input_signal first.model)
    ∙ ap (λ m. map (λ word. number_at models [] word) (inputs_of m)) (sym (top_is models first.model is.model))

-- a net that is made of these parts is that of the hierarchy
pub flat_is : (models : List Model) (covers : List Cover) (all : List Instance) (first : Instance) (net : RawNet) → AreInstances models covers all → IsInstance models covers first [] →
    net.nets ≡ length (nets models) → net.inputs ≡ map (node_in first) (inputs_of first.model) → net.outputs ≡ map (node_in first) (outputs_of first.model) →
    net.gates ≡ flat_map gates_in all → net.latches ≡ flat_map latches_in all → net.covers ≡ covers → IsFlat models net
flat_is models covers all first net are is count ins outs its_gates its_latches its_covers = record {
  nets = count;
  inputs = ap (λ l. map (λ (node : NodeId). node.0) l) ins ∙ top_inputs models covers first is;
  outputs = ap (λ l. map (λ (node : NodeId). node.0) l) outs ∙ nodes_are models covers first [] is (outputs_of first.model) (mentioned first.model output_words outputs_within)
      ∙ ap (λ m. map (λ word. number_at models [] word) (outputs_of m)) (sym (top_is models first.model is.model));
  gates = subst (λ l. AllZip (IsGateOf models net) l (gates models)) (sym its_gates)
      (zip_flat_map (IsInstance models covers) (IsGateOf models net) gates_in (λ path. map (λ line. (path, line)) (had_by gate_lines (model_at models path))) (λ instance path at. instance_gates models covers instance path at net its_covers) all (instances models) are);
  latches = subst (λ l. AllZip (IsLatchOf models) l (latches models)) (sym its_latches)
      (zip_flat_map (IsInstance models covers) (IsLatchOf models) latches_in (λ path. map (λ line. (path, line)) (had_by latch_lines (model_at models path))) (λ instance path at. instance_latches models covers instance path at) all (instances models) are);
}

-- the numbers of covers fit
pub few_covers : (models : List Model) (covers : List Cover) (all : List Instance) (most : ℕ) → AreInstances models covers all → length covers ≤ most → All (λ instance. instance.cover + length (gate_lines instance.model) ≤ most) all
few_covers models covers all most are few k d low = by all (instances models) are k low
  where
    by : (xs : List Instance) (paths : List (List ℕ)) → AllZip (IsInstance models covers) xs paths → (k : ℕ) → k < length xs → (get_or xs k d).cover + length (gate_lines (get_or xs k d).model) ≤ most
    by [] paths z k low = absurd (omega arith)
    by (x ∷ xs) [] z k low = absurd z
    by (x ∷ xs) (p ∷ paths) z zero low = let f = z.0.has_covers.few in omega (arith, f, few)
    by (x ∷ xs) (p ∷ paths) z (suc k) low = by xs paths z.1 k (omega arith)
