-- Meaning. What single lines of an AIGER text say. Source: Biere's AIGER format. This project's own
-- choices: that symbols may be given twice, what is left out, that words are parted by any blanks,
-- that M is compared with nothing but literals, and that a variable which no line defines is free.
use Rattle.std.specs.Prelude.{◌+◌, ◌&&◌, ℕ, suc, Bool, List, [], ◌∷◌, Option, None, Some, codes, bytes_eq, length, drop, map, nat_eq, nat_le, nat_lt, not, find, if◌then◌else◌}
use Rattle.std.specs.List.{list_all, list_any}
use Rattle.ste_base.specs.Bytes.{digit_zero, space}
use Rattle.ste_base.specs.Number.{number_of}
use Rattle.blif_lines.specs.Lines.{before, is_filled, trimmed_text, words_of}
use Rattle.net_core.specs.declared.raw.Init.{Init}
use Rattle.net_core.specs.declared.raw.Init.TheVariants as init
use Rattle.aig_model.specs.declared.aig.Kind.{Kind}
use Rattle.aig_model.specs.declared.aig.Kind.TheVariants as kind
use Rattle.aig_model.specs.declared.line.Head.{Head}
use Rattle.aig_model.specs.declared.line.Header.{Header}
use Rattle.aig_model.specs.declared.line.Header.TheVariants.{Bad, Good, LeftOut}
use Rattle.aig_model.specs.declared.line.Literals.{Literals}
use Rattle.aig_model.specs.declared.line.Literals.TheVariants.{One, Other, Three, Two}
use Rattle.aig_model.specs.declared.line.Said.{Said}
use Rattle.aig_model.specs.declared.line.Said.TheVariants as said
use Rattle.aig_model.specs.Literals.{variable_of}
use Rattle.aig_model.specs.Words.{greatest_number, is_definable, is_aig_number, aig_number_below, number_to}

-- a number of the header
abbrev pub count_of : List ℕ → Option ℕ
count_of word = number_to greatest_number word

-- the word is a number of the header
abbrev pub is_count : List ℕ → Bool
is_count word = is_aig_number word && nat_le (number_of word) greatest_number

-- the number is not 0: some digit of it is not
abbrev pub is_above_zero : List ℕ → Bool
is_above_zero word = list_any (λ digit. not (nat_eq digit digit_zero)) word

-- the numbers of a header, where all are there
abbrev pub head_of : Option ℕ → Option ℕ → Option ℕ → Option ℕ → Option ℕ → Option Head
head_of (Some most) (Some inputs) (Some latches) (Some outputs) (Some ands) =
    Some (record {
      most = most;
      inputs = inputs;
      latches = latches;
      outputs = outputs;
      ands = ands;
    })
head_of most inputs latches outputs ands = None

-- a header, where its numbers are there, unless one of its further numbers is left out
abbrev pub header_with : Option Head → Option (List ℕ) → Header
header_with None word = Bad
header_with (Some head) None = Good head
header_with (Some head) (Some word) = LeftOut word

-- what the words of the first line say: `aag M I L O A`, and up to four more numbers, which have to
-- be 0
abbrev pub header_of : List (List ℕ) → Header
header_of (tag ∷ most ∷ inputs ∷ latches ∷ outputs ∷ ands ∷ further) =
    if bytes_eq tag (codes "aag") && (list_all is_count further && nat_le (length further) 4) then
    header_with (head_of (count_of most) (count_of inputs) (count_of latches) (count_of outputs)
    (count_of ands))
    (find is_above_zero further)
    else Bad
header_of other = Bad

-- a literal: at most 2M + 1
abbrev pub literal_to : ℕ → List ℕ → Option ℕ
literal_to most word = number_to (most + most + 1) word

-- the literals that these are, where there are one to three
abbrev pub literals_with : List (Option ℕ) → Literals
literals_with (Some first ∷ []) = One first
literals_with (Some first ∷ Some second ∷ []) = Two first second
literals_with (Some first ∷ Some second ∷ Some third ∷ []) = Three first second third
literals_with literals = Other

-- the literals of a line's words
abbrev pub literals_of : ℕ → List (List ℕ) → Literals
literals_of most words = literals_with (map (literal_to most) words)

-- an input line: one literal, which may be defined
abbrev pub input_of : Literals → Said
input_of (One first) = if is_definable first then said.Input (variable_of first) else said.Wrong
input_of literals = said.Wrong

-- the initial value of a latch with this first literal that its third literal says: 0, 1, or free
-- where it is the first one
abbrev pub aig_init_of : ℕ → ℕ → Option Init
aig_init_of first third =
    if nat_eq third 0 then Some init.Zero
    else if nat_eq third 1 then Some init.One
    else if nat_eq third first then Some init.Free
    else None

-- a latch, where there is its initial value
abbrev pub aig_latch_with : ℕ → ℕ → Option Init → Said
aig_latch_with first next None = said.Wrong
aig_latch_with first next (Some init) =
    if is_definable first then said.Latch (variable_of first) next init else said.Wrong

-- a latch line: two literals, or three, of which the first may be defined; without a third the
-- initial value is 0
abbrev pub aig_latch_of : Literals → Said
aig_latch_of (Two first next) = aig_latch_with first next (Some init.Zero)
aig_latch_of (Three first next third) = aig_latch_with first next (aig_init_of first third)
aig_latch_of literals = said.Wrong

-- an output line: one literal
abbrev pub output_of : Literals → Said
output_of (One literal) = said.Output literal
output_of literals = said.Wrong

-- an AND line: three literals, of which the first may be defined
abbrev pub and_of : Literals → Said
and_of (Three first left right) =
    if is_definable first then said.And (variable_of first) left right else said.Wrong
and_of literals = said.Wrong

-- a byte that is a space
abbrev pub is_space : ℕ → Bool
is_space byte = nat_eq byte space

-- a symbol, where there are its number and a name
abbrev pub symbol_with : Kind → Option ℕ → List ℕ → Said
symbol_with kind None name = said.Wrong
symbol_with kind (Some number) name =
    if is_filled name then said.Symbol kind (record { number = number; name = name })
    else said.Wrong

-- a symbol of this kind, of which there are so many: a number, one space, and the name, to the end
-- of the line
abbrev pub symbol_of : Kind → ℕ → List ℕ → Said
symbol_of kind count text =
    symbol_with kind (aig_number_below count (before is_space text))
    (drop (suc (length (before is_space text))) text)

-- a line behind those of literals, without the blanks at its end: a symbol, or `c`, which ends what
-- is read
abbrev pub tail_of : Head → List ℕ → Said
tail_of head [] = said.Wrong
tail_of head (byte ∷ text) =
    if nat_eq byte 105 then symbol_of kind.Input head.inputs text
    else if nat_eq byte 108 then symbol_of kind.Latch head.latches text
    else if nat_eq byte 111 then symbol_of kind.Output head.outputs text
    else if nat_eq byte 99 && not (is_filled text) then said.End
    else said.Wrong

-- what the n-th line behind the header says, from 0: first there are the inputs, then latches,
-- outputs, ANDs, and symbols
abbrev pub said_at : Head → ℕ → List ℕ → Said
said_at head n line =
    if nat_lt n head.inputs then input_of (literals_of head.most (words_of line))
    else if nat_lt n (head.inputs + head.latches)
    then aig_latch_of (literals_of head.most (words_of line))
    else if nat_lt n (head.inputs + head.latches + head.outputs)
    then output_of (literals_of head.most (words_of line))
    else if nat_lt n (head.inputs + head.latches + head.outputs + head.ands)
    then and_of (literals_of head.most (words_of line))
    else tail_of head (trimmed_text line)
