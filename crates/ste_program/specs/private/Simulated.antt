-- For private functions. What a simulation knows of its inputs, and of the names of its outputs.
use Rattle.std.specs.Prelude.{◌≡◌, ◌≢◌, [], ℕ, List, All, IsTrue, Ok, Err, get_or, map}
use Rattle.blif_lines.specs.Lines.{lines_of}
use Rattle.clock_step.specs.Answer.{IsInputsAnswer}
use Rattle.clock_step.specs.Order.{is_undriven}
use Rattle.clock_step.specs.declared.fault.InputFault.{InputFault}
use Rattle.clock_step.specs.declared.fault.InputFault.TheVariants as input
use Rattle.clock_step.specs.declared.inputs.Inputs.{Inputs}
use Rattle.net_core.specs.declared.raw.RawNet.{RawNet}
use Rattle.net_names.specs.Names.{named_by}
use Rattle.net_names.specs.declared.names.NetNames.{NetNames}
use Rattle.ste_base.specs.declared.id.NodeId.{NodeId}
use Rattle.ste_program.specs.declared.refusal.Refusal.{Refusal}
use Rattle.ste_program.specs.declared.refusal.Refusal.TheVariants as refusal

-- the inputs that a text spells over a net
pub record AreGiven (net : RawNet) (names : NetNames) (text : List ℕ)
    (inputs : Inputs) : Type 0 where
  pub answer : IsInputsAnswer (named_by names) net (lines_of text) (Ok inputs)
  pub undriven : All (λ node. IsTrue (is_undriven net node.0)) inputs.nodes

-- why a text spells none
abbrev pub AreNotGiven : RawNet → NetNames → List ℕ → Refusal → Type 0
AreNotGiven net names text found =
    (fault : InputFault) × (found ≡ refusal.Inputs fault) × (fault ≢ input.OutOfMemory)
    × IsInputsAnswer (named_by names) net (lines_of text) (Err fault)

-- the own names of nets
abbrev pub own_names : NetNames → List NodeId → List (List ℕ)
own_names names ids = map (λ id. get_or names.own id.0 []) ids
