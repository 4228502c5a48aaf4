-- Meaning. What the lines of an input file are answered with.
use Rattle.std.specs.Prelude.{◌≡◌, ℕ, List, length, map, Option, Some, None, Result, Ok, Err}
use Rattle.blif_lines.specs.declared.lines.Line.{Line}
use Rattle.net_core.specs.declared.raw.RawNet.{RawNet}
use Rattle.clock_step.specs.declared.fault.InputFault.{InputFault}
use Rattle.clock_step.specs.declared.fault.InputFault.TheVariants.{OutOfMemory}
use Rattle.clock_step.specs.declared.inputs.Inputs.{Inputs}
use Rattle.clock_step.specs.Forms.{row_of}
use Rattle.clock_step.specs.Faults.{first_input_fault, names_of, later_lines}

-- the inputs are what the lines spell: the nets that the first line names, in its order, and the
-- bits of each later line
pub record AreSpelled (net_of : List ℕ → Option ℕ) (lines : List Line) (inputs : Inputs) :
    Type 0 where
  pub nodes : map (λ node. Some node.0) inputs.nodes ≡ map net_of (names_of lines)
  pub rows : map Some inputs.rows ≡ map (λ line. row_of (length (names_of lines)) line.words)
      (later_lines lines)

-- The answer over a net, where `net_of` says which net a text names: what the lines spell, where no
-- line has a fault; or the first fault; or out of memory.
abbrev pub IsInputsAnswer : (List ℕ → Option ℕ) → RawNet → List Line → Result Inputs InputFault →
    Type 0
IsInputsAnswer net_of net lines (Ok inputs) = (first_input_fault net_of net lines ≡ None)
    × AreSpelled net_of lines inputs
IsInputsAnswer net_of net lines (Err OutOfMemory) = Unit {0}
IsInputsAnswer net_of net lines (Err fault) = first_input_fault net_of net lines ≡ Some fault
