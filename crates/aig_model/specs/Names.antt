-- Meaning. The names of the signals of an AIGER text: symbols, or names of their own, which begin
-- with `$`. That these are so, and which symbols serve, is this project's own choice.
use Rattle.std.specs.Prelude.{◌∷◌, ◌++◌, ◌||◌, [], ℕ, suc, Bool, false, List, Option, None, Some, map, codes, bytes_eq, nat_eq, if◌then◌else◌, find, get_or, take, drop, length, unwrap_or, option_map, option_to_list}
use Rattle.std.specs.Fmt.{decimal}
use Rattle.std.specs.List.{list_any, position_or_len}
use Rattle.aig_model.specs.declared.aig.Aig.{Aig}
use Rattle.aig_model.specs.declared.aig.AigLatch.{AigLatch}
use Rattle.aig_model.specs.declared.aig.AigOutput.{AigOutput}
use Rattle.aig_model.specs.declared.aig.Symbol.{Symbol}
use Rattle.aig_model.specs.Literals.{is_odd, variable_of}
use Rattle.aig_model.specs.Sound.{sources}

-- the own name of a variable, of its opposite, and of the output with this number
abbrev pub own_variable : ℕ → List ℕ
own_variable v = codes "$v" ++ decimal v

abbrev pub own_opposite : ℕ → List ℕ
own_opposite v = codes "$n" ++ decimal v

abbrev pub own_output : ℕ → List ℕ
own_output k = codes "$o" ++ decimal k

-- the name of the first symbol with this number
abbrev pub first_symbol : ℕ → List Symbol → Option (List ℕ)
first_symbol n symbols = option_map (λ (symbol : Symbol). symbol.name) (find
    (λ (symbol : Symbol). nat_eq n symbol.number) symbols)

-- what may have a symbol: its own name, and its first symbol
pub record Label : Type 0 where
  pub own : List ℕ
  pub symbol : Option (List ℕ)

-- the labels of the things from this number on that have these names of their own, with the symbols
-- of their kind
abbrev pub labels_from : List Symbol → ℕ → List (List ℕ) → List Label
labels_from symbols n [] = []
labels_from symbols n (own ∷ owns) =
    record { own = own; symbol = first_symbol n symbols } ∷ labels_from symbols (suc n) owns

-- the outputs' names of their own, from this number on
abbrev pub own_outputs : ℕ → List AigOutput → List (List ℕ)
own_outputs k [] = []
own_outputs k (out ∷ outputs) = own_output k ∷ own_outputs (suc k) outputs

-- the inputs, latches and outputs, in this order, each by number
abbrev pub labels : Aig → List Label
labels aig =
    labels_from aig.input_symbols 0 (map own_variable aig.inputs)
    ++ (labels_from aig.latch_symbols 0 (map (λ (l : AigLatch). own_variable l.var) aig.latches)
    ++ labels_from aig.output_symbols 0 (own_outputs 0 aig.outputs))

-- the name begins with `$`
abbrev pub is_own : List ℕ → Bool
is_own [] = false
is_own (byte ∷ bytes) = nat_eq byte 36

-- the symbol, where it serves as a name: it does not begin with `$`, and is none of these names
abbrev pub usable_symbol : List (List ℕ) → Option (List ℕ) → Option (List ℕ)
usable_symbol taken None = None
usable_symbol taken (Some name) = if is_own name || list_any (bytes_eq name) taken then None else Some name

-- the names of labelled things, in turn: a symbol that serves, and else the own name; these
-- symbols are taken
abbrev pub label_names : List (List ℕ) → List Label → List (List ℕ)
label_names taken [] = []
label_names taken (label ∷ labels) =
    unwrap_or (usable_symbol taken label.symbol) label.own
    ∷ label_names (taken ++ option_to_list (usable_symbol taken label.symbol)) labels

-- the names of the inputs, latches and outputs, in this order
abbrev pub names : Aig → List (List ℕ)
names aig = label_names [] (labels aig)

-- the names of the inputs and latches
abbrev pub source_names : Aig → List (List ℕ)
source_names aig = take (length (sources aig)) (names aig)

-- the names of the outputs
abbrev pub output_names : Aig → List (List ℕ)
output_names aig = drop (length (sources aig)) (names aig)

-- the name of a variable: of the input or latch that has it, and else its own
abbrev pub variable_name : Aig → ℕ → List ℕ
variable_name aig v = get_or (source_names aig) (position_or_len (nat_eq v) (sources aig))
    (own_variable v)

-- the name of the signal that has a literal's bit
abbrev pub literal_name : Aig → ℕ → List ℕ
literal_name aig literal =
    if is_odd literal then own_opposite (variable_of literal) else variable_name aig (variable_of
    literal)
