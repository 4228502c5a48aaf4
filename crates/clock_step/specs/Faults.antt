-- Meaning. What is wrong with the lines of an input file: the fault of the first line that has one,
-- and on one line the first in the order of the kinds.
use Rattle.std.specs.Prelude.{ℕ, suc, ◌*◌, ◌∷◌, [], List, length, Option, Some, None, if◌then◌else◌, nat_lt, ◌||◌, Bool, unwrap_or, option_map}
use Rattle.std.specs.Option.{option_or}
use Rattle.blif_lines.specs.declared.lines.Line.{Line}
use Rattle.net_core.specs.declared.raw.RawNet.{RawNet}
use Rattle.clock_step.specs.declared.fault.InputFault.{InputFault}
use Rattle.clock_step.specs.declared.fault.InputFault.TheVariants.{BadLine, DoubleName, UnknownNode, NotAnInput, TooMany}
use Rattle.clock_step.specs.Forms.{order_of, row_of}
use Rattle.clock_step.specs.Order.{first_double_net, first_unknown_net, first_driven}

-- what is wrong with the names of a first line of this number
abbrev pub order_names_fault : (List ℕ → Option ℕ) → RawNet → ℕ → List (List ℕ) → Option InputFault
order_names_fault net_of net line names =
    option_or (option_map (DoubleName line) (first_double_net net_of [] names))
    (option_or (option_map (UnknownNode line) (first_unknown_net net_of names))
    (option_map (NotAnInput line) (first_driven net_of net names)))

-- what is wrong with a first line of this number, by the names that it spells
abbrev pub order_fault : (List ℕ → Option ℕ) → RawNet → ℕ → Option (List (List ℕ)) →
    Option InputFault
order_fault net_of net line None = Some (BadLine line)
order_fault net_of net line (Some names) = order_names_fault net_of net line names

-- the row of this number, counted from 1, is one too many over so many nets: there may be 10,000
-- rows, and rows times nets may be 100,000,000
abbrev pub is_too_many : ℕ → ℕ → Bool
is_too_many nets number = nat_lt 10000 number || nat_lt 100000000 (number * nets)

-- what is wrong with a line of this number that is the row of that number, by the bits that it
-- spells
abbrev pub row_fault : ℕ → ℕ → ℕ → Option (List Bool) → Option InputFault
row_fault nets number line None = Some (BadLine line)
row_fault nets number line (Some bits) =
    if is_too_many nets number then Some (TooMany line) else None

-- the first fault of lines that are rows behind so many others, over so many names and nets
abbrev pub rows_fault : ℕ → ℕ → ℕ → List Line → Option InputFault
rows_fault width nets before [] = None
rows_fault width nets before (line ∷ lines) =
    option_or (row_fault nets (suc before) line.number (row_of width line.words))
    (rows_fault width nets (suc before) lines)

-- the names that the first line spells; a text without lines has none
abbrev pub names_of : List Line → List (List ℕ)
names_of [] = []
names_of (line ∷ lines) = unwrap_or (order_of line.words) []

-- the lines behind the first
abbrev pub later_lines : List Line → List Line
later_lines [] = []
later_lines (line ∷ lines) = lines

-- the first fault of all lines
abbrev pub first_input_fault : (List ℕ → Option ℕ) → RawNet → List Line → Option InputFault
first_input_fault net_of net [] = None
first_input_fault net_of net (line ∷ lines) =
    option_or (order_fault net_of net line.number (order_of line.words))
    (rows_fault (length (names_of (line ∷ lines))) net.nets 0 lines)
