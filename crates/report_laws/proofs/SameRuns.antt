-- Flat nets of one hierarchy have the same runs, and the same outputs on what the lines of an input file spell.
use Rattle.std.proofs.Common.{◌≡◌, ◌<◌, ℕ, suc, Bool, List, [], ◌∷◌, length, map, get_or, Some, Ok, refl, ap, sym, ◌∙◌, subst}
use Rattle.std.specs.Prelude.{◌≢◌, All, slice_index_or}
use Rattle.std.specs.List.{AllZip}
use Rattle.blif_lines.specs.declared.lines.Line.{Line}
use Rattle.blif_syntax.specs.declared.models.Model.{Model}
use Rattle.clock_step.specs.Answer.{IsInputsAnswer}
use Rattle.clock_step.specs.Simulation.{AreOutputs, IsSimulation, bit_in, first_bit, first_bits}
use Rattle.clock_step.specs.declared.inputs.Inputs.{Inputs}
use Rattle.clock_step.proofs.OneAnswer.{one_answer, one_simulation}
use Rattle.hierarchy.specs.Names.{net_named}
use Rattle.net_core.specs.OneRun.{IsGivenRun}
use Rattle.net_core.specs.Run.{AreGateBits, IsRun, IsUndriven, gate_bit}
use Rattle.net_core.specs.declared.raw.Latch.{Latch}
use Rattle.net_core.specs.declared.raw.RawNet.{RawNet}
use Rattle.flat_net.specs.Flat.{IsFlat}
use Rattle.ste_base.specs.declared.id.NodeId.{NodeId}
use Rattle.ste_program.proofs.SameNets.{AreSame, flats_same, gate_at}
use Rattle.ste_program.proofs.SameInputs.{inputs_moved}

-- the bits of inputs by their numbers
by_number : (bit : ℕ → Bool) (inputs : List NodeId) → map (λ (input : NodeId). bit input.0) inputs ≡ map bit (map (λ (input : NodeId). input.0) inputs)
by_number bit [] = refl
by_number bit (input ∷ inputs) = ap (λ l. bit input.0 ∷ l) (by_number bit inputs)

bits_alike : (bit : ℕ → Bool) (one twin : List NodeId) → map (λ (input : NodeId). input.0) one ≡ map (λ (input : NodeId). input.0) twin → map (λ (input : NodeId). bit input.0) one ≡ map (λ (input : NodeId). bit input.0) twin
bits_alike bit one twin e = by_number bit one ∙ (ap (map bit) e ∙ sym (by_number bit twin))

gate_bits_moved : (net other : RawNet) (bit : ℕ → Bool) → AreSame net other → AreGateBits net bit → AreGateBits other bit
gate_bits_moved net other bit same h = λ k d l.
    let at = gate_at net other net.gates other.gates k d same.gates l in
    let one = get_or net.gates k d in
    let twin = get_or other.gates k d in
    sym (ap bit at.1.output)
    ∙ (h k d at.0
    ∙ (ap (λ (function : List Bool → Bool). function (map (λ (input : NodeId). bit input.0) one.inputs)) at.1.function
    ∙ ap (gate_bit other twin) (bits_alike bit one.inputs twin.inputs at.1.inputs)))

pub undriven_moved : (net other : RawNet) (id : ℕ) → AreSame net other → IsUndriven net id → IsUndriven other id
undriven_moved net other id same h = record {
  by_gate = λ k d l e. let at = gate_at net other net.gates other.gates k d same.gates l in h.by_gate k d at.0 (at.1.output ∙ e);
  by_latch = subst (λ (latches : List Latch). All (λ latch. latch.output.0 ≢ id) latches) same.latches h.by_latch;
}

pub run_moved : (net other : RawNet) (n : ℕ) (run : ℕ → ℕ → Bool) → AreSame net other → IsRun net n run → IsRun other n run
run_moved net other n run same h = record {
  gates = λ t l. gate_bits_moved net other (run t) same (h.gates t l);
  latches = λ t l. subst (λ (latches : List Latch). All (λ latch. run (suc t) latch.output.0 ≡ run t latch.input.0) latches) same.latches (h.latches t l);
}

simulation_moved : (net other : RawNet) (inputs : Inputs) (run : ℕ → ℕ → Bool) → AreSame net other → AreSame other net → IsSimulation net inputs run → IsSimulation other inputs run
simulation_moved net other inputs run same back h = record {
  is_run = run_moved net other (length inputs.rows) run same h.is_run;
  sources = λ t id l m undriven. h.sources t id l (subst (λ n. id < n) back.nets m) (undriven_moved other net id back undriven);
  starts = λ some. subst (λ (latches : List Latch). AllZip (λ latch bit. run 0 latch.output.0 ≡ bit) latches (map (λ (latch : Latch). first_bit latch.init) latches)) same.latches (h.starts some);
}

outputs_moved : (net other : RawNet) (inputs : Inputs) (rows : List (List Bool)) → AreSame net other → AreSame other net → AreOutputs net inputs rows → AreOutputs other inputs rows
outputs_moved net other inputs rows same back h = record {
  some = (h.some.0, simulation_moved net other inputs h.some.0 same back h.some.1);
  long = h.long;
  each = λ run is t l. h.each run (simulation_moved other net inputs run back same is) t l ∙ ap (λ (outputs : List NodeId). Some (map (λ (output : NodeId). run t output.0) outputs)) same.outputs;
}

-- the bit of a net at a time, by nodes and rows
abbrev given : List NodeId → List (List Bool) → ℕ → ℕ → Bool
given ids ws t id = bit_in ids (slice_index_or ws t []) id

-- inputs that are the same have the same runs
inputs_as : (net : RawNet) (one other : Inputs) (rows : List (List Bool)) → one.nodes ≡ other.nodes → one.rows ≡ other.rows → AreOutputs net one rows → AreOutputs net other rows
inputs_as net one other rows nodes words h = record {
  some = (h.some.0, as_other h.some.0 h.some.1);
  long = h.long ∙ ap length words;
  each = λ run is t l. h.each run (as_one run is) t (subst (λ (ws : List (List Bool)). t < length ws) (sym words) l);
}
  where
    as_other : (run : ℕ → ℕ → Bool) → IsSimulation net one run → IsSimulation net other run
    as_other run is =
        subst (λ (ids : List NodeId). IsGivenRun net (given ids other.rows) (first_bits net) (length other.rows) run) nodes
        (subst (λ (ws : List (List Bool)). IsGivenRun net (given one.nodes ws) (first_bits net) (length ws) run) words is)

    as_one : (run : ℕ → ℕ → Bool) → IsSimulation net other run → IsSimulation net one run
    as_one run is =
        subst (λ (ids : List NodeId). IsGivenRun net (given ids one.rows) (first_bits net) (length one.rows) run) (sym nodes)
        (subst (λ (ws : List (List Bool)). IsGivenRun net (given other.nodes ws) (first_bits net) (length ws) run) (sym words) is)

-- two flat nets of a hierarchy have the same outputs on what lines spell
pub outputs_same : (models : List Model) (net other : RawNet) (lines : List Line) (one two : Inputs) (rows others : List (List Bool)) → IsFlat models net → IsFlat models other →
    IsInputsAnswer (net_named models) net lines (Ok one) → IsInputsAnswer (net_named models) other lines (Ok two) → AreOutputs net one rows → AreOutputs other two others → rows ≡ others
outputs_same models net other lines one two rows others f g p q a b =
    let same = flats_same models net other f g in
    let back = flats_same models other net g f in
    let inputs = one_answer (net_named models) other lines (Ok one) (Ok two) (λ e. absurd (cc e)) (λ e. absurd (cc e)) (inputs_moved models net other lines (Ok one) f g p) q in
    one_simulation other two rows others (inputs_as other one two rows inputs.0 inputs.1 (outputs_moved net other one rows same back a)) b
