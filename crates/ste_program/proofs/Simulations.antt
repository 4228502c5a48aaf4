-- What a simulation writes, or why it writes nothing, by the names of the flat net.
use Rattle.std.proofs.Common.{◌≡◌, ◌∙◌, List, [], ◌∷◌, ℕ, Bool, Option, Result, Ok, Err, ap, subst, inl, inr}
use Rattle.blif_lines.specs.Lines.{lines_of}
use Rattle.blif_syntax.specs.declared.models.Model.{Model}
use Rattle.clock_step.specs.Answer.{IsInputsAnswer}
use Rattle.clock_step.specs.Simulation.{AreOutputs}
use Rattle.clock_step.specs.declared.inputs.Inputs.{Inputs}
use Rattle.clock_step.specs.declared.fault.InputFault.{InputFault}
use Rattle.hierarchy.specs.Names.{net_named}
use Rattle.net_core.specs.declared.raw.RawNet.{RawNet}
use Rattle.net_names.specs.Names.{AreNamesOf, named_by}
use Rattle.net_names.specs.declared.names.NetNames.{NetNames}
use Rattle.ste_program.specs.Netlist.{IsNetlist}
use Rattle.ste_program.specs.Order.{IsFirstRefusal, has_faulty_inputs, sim_stages}
use Rattle.ste_program.specs.Simulated.{IsSimulated, sim_text}
use Rattle.ste_program.specs.private.Made.{IsNetOf}
use Rattle.ste_program.specs.private.Simulated.{AreNotGiven, own_names}
use Rattle.ste_program.specs.private.Texts.{OrMemory}
use Rattle.ste_program.specs.declared.refusal.Refusal.{Refusal}
use Rattle.ste_program.proofs.Outputs.{outputs_named}
use Rattle.ste_program.proofs.TextStages.{behind_netlist}
use Rattle.ste_program.proofs.Told.{by_names}

-- an answer by the names is one by the netlist
by_netlist : (models : List Model) (net : RawNet) (names : NetNames) (text : List ℕ) (answer : Result Inputs InputFault) → AreNamesOf models names → IsInputsAnswer (named_by names) net (lines_of text) answer → IsInputsAnswer (net_named models) net (lines_of text) answer
by_netlist models net names text answer named h = subst (λ (net_of : List ℕ → Option ℕ). IsInputsAnswer net_of net (lines_of text) answer) (by_names models names named) h

-- the inputs' text is refused
pub inputs_fail : (net_text input_text : List ℕ) (models : List Model) (net : RawNet) (names : NetNames) (found : Refusal) → IsNetlist net_text models → IsNetOf models net names → OrMemory (AreNotGiven net names input_text) found →
    OrMemory (IsFirstRefusal (sim_stages net_text input_text)) found
inputs_fail net_text input_text models net names found spelled n (inl memory) = inl memory
inputs_fail net_text input_text models net names found spelled n (inr (fault, is, told, answer)) =
    behind_netlist net_text models net names (has_faulty_inputs net_text input_text ∷ []) found spelled n
    (inr (inl (fault, is, record { models = models; netlist = spelled; net = net; flat = n.flat; told = told; answer = by_netlist models net names input_text (Err fault) n.named answer })))

-- the outputs are written
pub is_simulated : (net_text input_text : List ℕ) (models : List Model) (net : RawNet) (names : NetNames) (inputs : Inputs) (rows : List (List Bool)) (bytes : List ℕ) → IsNetlist net_text models → IsNetOf models net names →
    IsInputsAnswer (named_by names) net (lines_of input_text) (Ok inputs) → AreOutputs net inputs rows → bytes ≡ sim_text (own_names names net.outputs) rows → IsSimulated net_text input_text bytes
is_simulated net_text input_text models net names inputs rows bytes spelled n answer run written = record {
  models = models;
  net = net;
  inputs = inputs;
  rows = rows;
  flattened = record { netlist = spelled; sound = n.sound; flat = n.flat; in_range = n.in_range; settled = n.settled };
  given = by_netlist models net names input_text (Ok inputs) n.named answer;
  run = run;
  written = written ∙ ap (λ (ones : List (List ℕ)). sim_text ones rows) (outputs_named models net names n.flat n.named);
}
