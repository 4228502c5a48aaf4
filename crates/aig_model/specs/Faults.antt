-- Meaning. The first faulty line of an AIGER text.
use Rattle.std.specs.Prelude.{◌+◌, ◌&&◌, ◌++◌, ℕ, Bool, true, false, List, [], ◌∷◌, Option, None, Some, length, nat_eq, nat_lt, not, if◌then◌else◌, option_map, option_to_list}
use Rattle.std.specs.List.{list_any}
use Rattle.blif_lines.specs.Lines.{is_line_feed, pieces, words_of}
use Rattle.aig_model.specs.declared.fault.AigFault.{AigFault}
use Rattle.aig_model.specs.declared.fault.AigFault.TheVariants as fault
use Rattle.aig_model.specs.declared.line.Entry.{Entry}
use Rattle.aig_model.specs.declared.line.Head.{Head}
use Rattle.aig_model.specs.declared.line.Header.{Header}
use Rattle.aig_model.specs.declared.line.Header.TheVariants as header
use Rattle.aig_model.specs.declared.line.Said.{Said}
use Rattle.aig_model.specs.declared.line.Said.TheVariants as said
use Rattle.aig_model.specs.Lines.{header_of}
use Rattle.aig_model.specs.Spelled.{entries_from}

-- the variable that a line defines
abbrev pub defines : Said → Option ℕ
defines (said.Input var) = Some var
defines (said.Latch var next init) = Some var
defines (said.And var left right) = Some var
defines other = None

-- the variable is there and not among these
abbrev pub is_new : List ℕ → Option ℕ → Bool
is_new defined None = true
is_new defined (Some var) = not (list_any (nat_eq var) defined)

-- the line has the form that its place asks for
abbrev pub is_formed : Said → Bool
is_formed said.Wrong = false
is_formed other = true

-- the line may stand behind lines that define these variables
abbrev pub aig_may_stand : List ℕ → Said → Bool
aig_may_stand defined said = is_formed said && is_new defined (defines said)

-- the number of the first line that may not stand, behind lines that define these variables
abbrev pub first_bad : List ℕ → List Entry → Option ℕ
first_bad defined [] = None
first_bad defined (entry ∷ entries) =
    if aig_may_stand defined entry.said
    then first_bad (defined ++ option_to_list (defines entry.said)) entries
    else Some entry.line

-- how many lines of literals a header asks for
abbrev pub lines_asked : Head → ℕ
lines_asked head = head.inputs + head.latches + head.outputs + head.ands

-- the number of the line that is missing, where there are fewer lines than the header asks for: the
-- one behind the last
abbrev pub missing_line : Head → List Entry → Option ℕ
missing_line head entries =
    if nat_lt (length entries) (lines_asked head) then Some (length entries + 2)
    else None

-- the first of two, where it is there, and else the second
abbrev pub or_else : Option ℕ → Option ℕ → Option ℕ
or_else None second = second
or_else (Some first) second = Some first

-- the number of the first faulty line behind the header
abbrev pub first_faulty : Head → List Entry → Option ℕ
first_faulty head entries = or_else (first_bad [] entries) (missing_line head entries)

-- the words of the first line; none where there is no line
abbrev pub first_words : List (List ℕ) → List (List ℕ)
first_words [] = []
first_words (line ∷ lines) = words_of line

-- the lines behind the first
abbrev pub aig_later_lines : List (List ℕ) → List (List ℕ)
aig_later_lines [] = []
aig_later_lines (line ∷ lines) = lines

-- the fault of a text with this header and these later lines
abbrev pub fault_with : Header → List (List ℕ) → Option AigFault
fault_with header.Bad lines = Some (fault.BadLine 1)
fault_with (header.LeftOut word) lines = Some (fault.LeftOut 1 word)
fault_with (header.Good head) lines = option_map fault.BadLine (first_faulty head (entries_from head
    0 lines))

-- the fault of a text: of its first faulty line
abbrev pub text_fault : List ℕ → Option AigFault
text_fault bytes =
    fault_with (header_of (first_words (pieces is_line_feed bytes))) (aig_later_lines (pieces
    is_line_feed bytes))
