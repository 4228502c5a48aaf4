-- Meaning. Single words and names of an AIGER text.
use Rattle.std.specs.Prelude.{◌&&◌, ℕ, Bool, List, Option, None, Some, nat_le, nat_lt, not, if◌then◌else◌}
use Rattle.std.specs.List.{list_all}
use Rattle.ste_base.specs.Bytes.{is_digit}
use Rattle.ste_base.specs.Number.{number_of}
use Rattle.blif_lines.specs.Lines.{is_filled}
use Rattle.aig_model.specs.Literals.{is_odd}

-- one or more decimal digits
abbrev pub is_aig_number : List ℕ → Bool
is_aig_number word = is_filled word && list_all is_digit word

-- the number that a word is, where it is one of at most so much; leading zeros change nothing
abbrev pub number_to : ℕ → List ℕ → Option ℕ
number_to max word = if is_aig_number word && nat_le (number_of word) max then Some (number_of word)
    else None

-- the number that a word is, where it is one below this
abbrev pub aig_number_below : ℕ → List ℕ → Option ℕ
aig_number_below count word = if is_aig_number word && nat_lt (number_of word) count then Some (number_of
    word) else None

-- the greatest number that may stand in a header
abbrev pub greatest_number : ℕ
greatest_number = 2147483647

-- the literal may be defined: it is even and above 1
abbrev pub is_definable : ℕ → Bool
is_definable literal = not (is_odd literal) && nat_lt 1 literal
