-- Meaning. What a netlist's lines are answered with.
use Rattle.std.specs.Prelude.{◌≡◌, ℕ, [], List, map, Some, None, Result, Ok, Err}
use Rattle.blif_lines.specs.declared.lines.Line.{Line}
use Rattle.blif_syntax.specs.declared.fault.BlifFault.{BlifFault}
use Rattle.blif_syntax.specs.declared.fault.BlifFault.TheVariants.{BadLine, UnknownWord, LeftOut, NoModel, OutOfMemory}
use Rattle.blif_syntax.specs.declared.form.Entry.{Entry}
use Rattle.blif_syntax.specs.declared.form.LineFault.{LineFault}
use Rattle.blif_syntax.specs.declared.form.LineFault.TheVariants as line_fault
use Rattle.blif_syntax.specs.declared.models.Models.{Models}
use Rattle.blif_syntax.specs.Forms.{form_of}
use Rattle.blif_syntax.specs.Places.{first_fault}
use Rattle.blif_syntax.specs.Spelled.{models_of}

-- a line with its form
abbrev pub entry_of : Line → Entry
entry_of line = record { line = line.number; form = form_of line.words }

-- lines with their forms
abbrev pub entries_of : List Line → List Entry
entries_of lines = map entry_of lines

-- the fault of a line of this number, by what is wrong with it
abbrev pub fault_of : ℕ → LineFault → BlifFault
fault_of line line_fault.Bad = BadLine line
fault_of line (line_fault.Unknown word) = UnknownWord line word
fault_of line (line_fault.LeftOut word) = LeftOut line word

-- the answer on these lines: the models that they spell, or the fault of the first faulty line, or
-- that there is no model, or out of memory
abbrev pub IsBlifAnswer : List Entry → Result Models BlifFault → Type 0
IsBlifAnswer lines (Ok models) = (first_fault [] lines ≡ None) × (models.models ≡ models_of lines)
IsBlifAnswer lines (Err (BadLine line)) = first_fault [] lines ≡ Some (line, line_fault.Bad)
IsBlifAnswer lines (Err (UnknownWord line word)) = first_fault [] lines
    ≡ Some (line, line_fault.Unknown word)
IsBlifAnswer lines (Err (LeftOut line word)) = first_fault [] lines
    ≡ Some (line, line_fault.LeftOut word)
IsBlifAnswer lines (Err NoModel) = (first_fault [] lines ≡ None) × (models_of lines ≡ [])
IsBlifAnswer lines (Err OutOfMemory) = Unit {0}
