-- Flat nets of one hierarchy differ in the numbers of their covers alone: their nets, latches and sources are the same, and their
-- gates have the same functions.
use Rattle.std.proofs.Common.{◌≡◌, ◌<◌, ◌+◌, ℕ, zero, suc, cond, List, [], ◌∷◌, length, map, get_or, Option, Some, refl, ap, sym, ◌∙◌, arith}
use Rattle.std.specs.Prelude.{◌==◌, if◌then◌else◌, position}
use Rattle.std.specs.List.{AllZip, list_any, position_from}
use Rattle.std.proofs.lemmas.Iterator.Adapters.{position_from-zero}
use Rattle.ste_base.specs.declared.id.NodeId.{NodeId}
use Rattle.blif_syntax.specs.declared.models.Model.{Model}
use Rattle.hierarchy.specs.Lines.{GateLine, LatchLine}
use Rattle.hierarchy.specs.Nets.{gates, latches}
use Rattle.net_core.specs.declared.raw.Gate.{Gate}
use Rattle.net_core.specs.declared.raw.Init.{Init}
use Rattle.net_core.specs.declared.raw.Latch.{Latch}
use Rattle.net_core.specs.declared.raw.RawNet.{RawNet}
use Rattle.net_core.specs.declared.source.Source.{Source}
use Rattle.net_core.specs.declared.source.Source.TheVariants as source
use Rattle.net_core.specs.Run.{bit_of, gate_bit}
use Rattle.net_core.specs.Source.{driver, source_of}
use Rattle.flat_net.specs.Flat.{IsFlat, IsGateOf, IsLatchOf}

-- two gates have the same nets and the same function
pub record AreAlike (net other : RawNet) (one : Gate) (twin : Gate) : Type 0 where
  pub output : one.output.0 ≡ twin.output.0
  pub inputs : map (λ (input : NodeId). input.0) one.inputs ≡ map (λ (input : NodeId). input.0) twin.inputs
  pub function : gate_bit net one ≡ gate_bit other twin

gates_alike : (models : List Model) (net other : RawNet) (ones others : List Gate) (lines : List (List ℕ × GateLine)) → AllZip (IsGateOf models net) ones lines → AllZip (IsGateOf models other) others lines → AllZip (AreAlike net other) ones others
gates_alike models net other [] [] [] f g = tt
gates_alike models net other [] (b ∷ others) [] f g = absurd g
gates_alike models net other (a ∷ ones) others [] f g = absurd f
gates_alike models net other [] others (line ∷ lines) f g = absurd f
gates_alike models net other (a ∷ ones) [] (line ∷ lines) f g = absurd g
gates_alike models net other (a ∷ ones) (b ∷ others) (line ∷ lines) f g = (
  record {
    output = f.0.output ∙ sym g.0.output;
    inputs = f.0.inputs ∙ sym g.0.inputs;
    function = ap bit_of f.0.cover ∙ sym (ap bit_of g.0.cover);
  },
  gates_alike models net other ones others lines f.1 g.1,
)

-- a latch by its numbers
abbrev latch : ℕ → ℕ → Init → Latch
latch input output init = record { input = record { 0 = input }; output = record { 0 = output }; init = init }

latches_same : (models : List Model) (ones others : List Latch) (lines : List (List ℕ × LatchLine)) → AllZip (IsLatchOf models) ones lines → AllZip (IsLatchOf models) others lines → ones ≡ others
latches_same models [] [] [] f g = refl
latches_same models [] (b ∷ others) [] f g = absurd g
latches_same models (a ∷ ones) others [] f g = absurd f
latches_same models [] others (line ∷ lines) f g = absurd f
latches_same models (a ∷ ones) [] (line ∷ lines) f g = absurd g
latches_same models (a ∷ ones) (b ∷ others) (line ∷ lines) f g =
    let input : a.input.0 ≡ b.input.0 = f.0.input ∙ sym g.0.input in
    let output : a.output.0 ≡ b.output.0 = f.0.output ∙ sym g.0.output in
    let init = f.0.init ∙ sym g.0.init in
    let first : a ≡ b = ap (λ i. latch i a.output.0 a.init) input ∙ (ap (λ o. latch b.input.0 o a.init) output ∙ ap (latch b.input.0 b.output.0) init) in
    ap (λ l. l ∷ ones) first ∙ ap (λ ls. b ∷ ls) (latches_same models ones others lines f.1 g.1)

-- two nets have the same nets, inputs, outputs and latches, and gates of the same functions
pub record AreSame (net other : RawNet) : Type 0 where
  pub nets : net.nets ≡ other.nets
  pub inputs : net.inputs ≡ other.inputs
  pub outputs : net.outputs ≡ other.outputs
  pub latches : net.latches ≡ other.latches
  pub gates : AllZip (AreAlike net other) net.gates other.gates

-- a node by its number
abbrev node : ℕ → NodeId
node n = record { 0 = n }

-- nodes with the same numbers are the same
nodes_same : (ones others : List NodeId) → map (λ (node : NodeId). node.0) ones ≡ map (λ (node : NodeId). node.0) others → ones ≡ others
nodes_same [] [] e = refl
nodes_same [] (b ∷ others) e = absurd (cc e)
nodes_same (a ∷ ones) [] e = absurd (cc e)
nodes_same (a ∷ ones) (b ∷ others) e =
    let first : a.0 ≡ b.0 = cc e in
    let rest : map (λ (node : NodeId). node.0) ones ≡ map (λ (node : NodeId). node.0) others = cc e in
    ap (λ n. node n ∷ ones) first ∙ ap (λ l. b ∷ l) (nodes_same ones others rest)

pub flats_same : (models : List Model) (net other : RawNet) → IsFlat models net → IsFlat models other → AreSame net other
flats_same models net other f g = record {
  nets = f.nets ∙ sym g.nets;
  inputs = nodes_same net.inputs other.inputs (f.inputs ∙ sym g.inputs);
  outputs = nodes_same net.outputs other.outputs (f.outputs ∙ sym g.outputs);
  latches = latches_same models net.latches other.latches (latches models) f.latches g.latches;
  gates = gates_alike models net other net.gates other.gates (gates models) f.gates g.gates;
}

pub gate_at : (net other : RawNet) (ones others : List Gate) (k : ℕ) (d : Gate) → AllZip (AreAlike net other) ones others → k < length others → (k < length ones) × AreAlike net other (get_or ones k d) (get_or others k d)
gate_at net other ones [] k d f l = absurd (omega (arith, l))
gate_at net other [] (b ∷ others) k d f l = absurd f
gate_at net other (a ∷ ones) (b ∷ others) zero d f l = (omega arith, f.0)
gate_at net other (a ∷ ones) (b ∷ others) (suc k) d f l = let rest = gate_at net other ones others k d f.1 (omega (arith, l)) in let h = rest.0 in (omega (arith, h), rest.1)

-- the gates that drive a net stand at the same place
places_same : (net other : RawNet) (ones others : List Gate) (id i : ℕ) → AllZip (AreAlike net other) ones others → position_from (λ (gate : Gate). gate.output.0 == id) i ones ≡ position_from (λ (gate : Gate). gate.output.0 == id) i others
places_same net other [] [] id i h = refl
places_same net other [] (b ∷ others) id i h = absurd h
places_same net other (a ∷ ones) [] id i h = absurd h
places_same net other (a ∷ ones) (b ∷ others) id i h =
    ap (λ o. cond (o == id) (Some i) (position_from (λ (gate : Gate). gate.output.0 == id) (i + 1) ones)) h.0.output
    ∙ ap (λ p. cond (b.output.0 == id) (Some i) p) (places_same net other ones others id (i + 1) h.1)

drivers_same : (net other : RawNet) (ones others : List Gate) (id : ℕ) → AllZip (AreAlike net other) ones others → position (λ (gate : Gate). gate.output.0 == id) ones ≡ position (λ (gate : Gate). gate.output.0 == id) others
drivers_same net other ones others id h =
    position_from-zero (λ (gate : Gate). gate.output.0 == id) ones
    ∙ (places_same net other ones others id 0 h ∙ sym (position_from-zero (λ (gate : Gate). gate.output.0 == id) others))

-- what drives a net, by the parts of the flat net
abbrev source_by : List NodeId → Option ℕ → List Latch → ℕ → Source
source_by inputs gate latches id =
    if list_any (λ (input : NodeId). input.0 == id) inputs then source.Input else driver gate (position (λ (latch : Latch). latch.output.0 == id) latches)

-- the same drives a net in both
pub sources_same : (net other : RawNet) → AreSame net other → (id : ℕ) → source_of net id ≡ source_of other id
sources_same net other same id =
    let gate : RawNet → Option ℕ = λ (n : RawNet). position (λ (g : Gate). g.output.0 == id) n.gates in
    ap (λ (inputs : List NodeId). source_by inputs (gate net) net.latches id) same.inputs
    ∙ (ap (λ p. source_by other.inputs p net.latches id) (drivers_same net other net.gates other.gates id same.gates)
    ∙ ap (λ (latches : List Latch). source_by other.inputs (gate other) latches id) same.latches)
