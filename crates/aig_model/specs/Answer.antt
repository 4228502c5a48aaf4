-- Meaning. What an AIGER text is answered with: the model that it is read as, or the fault of its
-- first faulty line.
use Rattle.std.specs.Prelude.{◌≡◌, ℕ, List, [], ◌∷◌, None, Some, Result, Ok, Err}
use Rattle.blif_lines.specs.Lines.{is_line_feed, pieces}
use Rattle.blif_syntax.specs.declared.models.Models.{Models}
use Rattle.aig_model.specs.declared.aig.Aig.{Aig}
use Rattle.aig_model.specs.declared.fault.AigFault.{AigFault}
use Rattle.aig_model.specs.declared.fault.AigFault.TheVariants as fault
use Rattle.aig_model.specs.declared.line.Entry.{Entry}
use Rattle.aig_model.specs.declared.line.Header.{Header}
use Rattle.aig_model.specs.declared.line.Header.TheVariants as header
use Rattle.aig_model.specs.Faults.{text_fault, first_words, aig_later_lines}
use Rattle.aig_model.specs.Lines.{header_of}
use Rattle.aig_model.specs.Netlist.{model_of}
use Rattle.aig_model.specs.Spelled.{aig_of, entries_from}

-- what the lines behind this header say
abbrev pub entries_with : Header → List (List ℕ) → List Entry
entries_with (header.Good head) lines = entries_from head 0 lines
entries_with other lines = []

-- what the lines of a text say
abbrev pub text_entries : List ℕ → List Entry
text_entries bytes =
    entries_with (header_of (first_words (pieces is_line_feed bytes))) (aig_later_lines (pieces
    is_line_feed bytes))

-- what a text says
abbrev pub spelled_aig : List ℕ → Aig
spelled_aig bytes = aig_of (text_entries bytes)

-- the answer on a text: the one model that it is read as, or the fault of its first faulty line, or
-- out of memory
abbrev pub IsAigAnswer : List ℕ → Result Models AigFault → Type 0
IsAigAnswer bytes (Ok models) = (text_fault bytes ≡ None) × (models.models ≡ model_of (spelled_aig
    bytes) ∷ [])
IsAigAnswer bytes (Err fault.OutOfMemory) = Unit {0}
IsAigAnswer bytes (Err other) = text_fault bytes ≡ Some other
