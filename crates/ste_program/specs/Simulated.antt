-- Meaning. What `sim` writes on the texts of a netlist and of an input file. Source: this project's
-- own choice.
use Rattle.std.specs.Prelude.{◌≡◌, ◌++◌, ℕ, Bool, List, codes, flat_map, map, Ok}
use Rattle.blif_lines.specs.Lines.{lines_of}
use Rattle.blif_syntax.specs.declared.models.Model.{Model}
use Rattle.clock_step.specs.Answer.{IsInputsAnswer}
use Rattle.clock_step.specs.Simulation.{AreOutputs}
use Rattle.clock_step.specs.declared.inputs.Inputs.{Inputs}
use Rattle.hierarchy.specs.Lines.{outputs_of, top}
use Rattle.hierarchy.specs.Names.{net_named}
use Rattle.net_core.specs.declared.raw.RawNet.{RawNet}
use Rattle.report_text.specs.Text.{bit_code}
use Rattle.ste_program.specs.Netlist.{IsFlattened}

-- the line of one time: a bit for each output
abbrev pub outputs_line : List Bool → List ℕ
outputs_line row = map bit_code row ++ codes "\n"

-- a name behind a space
abbrev pub name_part : List ℕ → List ℕ
name_part name = codes " " ++ name

-- the names of the outputs, and their bits time by time
abbrev pub sim_text : List (List ℕ) → List (List Bool) → List ℕ
sim_text names rows =
    codes "outputs" ++ flat_map name_part names ++ codes "\n" ++ flat_map outputs_line rows

-- what `sim` writes on two texts: the bits of the top's outputs in the run on the inputs that the
-- second text spells
pub record IsSimulated (net_text input_text : List ℕ) (bytes : List ℕ) : Type 0 where
  pub models : List Model
  pub net : RawNet
  pub inputs : Inputs
  pub rows : List (List Bool)
  pub flattened : IsFlattened net_text models net
  pub given : IsInputsAnswer (net_named models) net (lines_of input_text) (Ok inputs)
  pub run : AreOutputs net inputs rows
  pub written : bytes ≡ sim_text (outputs_of (top models)) rows
