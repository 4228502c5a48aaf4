-- Meaning. The first words of lines, and single words that have a meaning. Source: the Berkeley
-- description of BLIF.
use Rattle.std.specs.Prelude.{ℕ, ◌∷◌, [], List, Bool, false, Option, Some, None, if◌then◌else◌, nat_eq, ◌||◌, bytes_eq, codes}
use Rattle.std.specs.List.{list_any}
use Rattle.ste_base.specs.Bytes.{dash, digit_one, digit_zero, dot}
use Rattle.net_core.specs.declared.cover.Lit.{Lit}
use Rattle.net_core.specs.declared.cover.Lit.TheVariants as lit
use Rattle.net_core.specs.declared.raw.Init.{Init}
use Rattle.net_core.specs.declared.raw.Init.TheVariants as init
use Rattle.blif_syntax.specs.declared.models.LatchKind.{LatchKind}
use Rattle.blif_syntax.specs.declared.models.LatchKind.TheVariants as kinds

-- the word is one of these
abbrev pub is_one_of : List (List ℕ) → List ℕ → Bool
is_one_of words word = list_any (bytes_eq word) words

-- lines with these first words are skipped unread
abbrev pub skipped_words : List (List ℕ)
skipped_words =
    codes ".area" ∷ codes ".delay" ∷ codes ".wire_load_slope" ∷ codes ".wire"
    ∷ codes ".input_arrival"
    ∷ codes ".default_input_arrival" ∷ codes ".output_required" ∷ codes ".default_output_required"
    ∷ codes ".input_drive"
    ∷ codes ".default_input_drive" ∷ codes ".output_load" ∷ codes ".default_output_load"
    ∷ codes ".max_input_load"
    ∷ codes ".default_max_input_load" ∷ codes ".attr" ∷ codes ".param" ∷ codes ".cname" ∷ []

-- lines with these first words are left out
abbrev pub left_out_words : List (List ℕ)
left_out_words =
    codes ".gate" ∷ codes ".mlatch" ∷ codes ".exdc" ∷ codes ".start_kiss" ∷ codes ".search"
    ∷ codes ".blackbox"
    ∷ codes ".conn" ∷ []

-- latches of these types are left out
abbrev pub left_out_types : List (List ℕ)
left_out_types = codes "ah" ∷ codes "al" ∷ codes "as" ∷ []

-- the word begins with a dot
abbrev pub begins_with_dot : List ℕ → Bool
begins_with_dot [] = false
begins_with_dot (byte ∷ word) = nat_eq byte dot

-- the characters 0 and 1
abbrev pub is_bit : ℕ → Bool
is_bit byte = nat_eq byte digit_zero || nat_eq byte digit_one

-- the characters 0, 1 and -
abbrev pub is_literal : ℕ → Bool
is_literal byte = is_bit byte || nat_eq byte dash

-- the literal of a character
abbrev pub literal_of : ℕ → Lit
literal_of byte =
    if nat_eq byte digit_zero then lit.Zero else if nat_eq byte digit_one then lit.One else lit.Any

-- the initial value of a word: 0, 1, and 2 or 3 for a free one
abbrev pub init_of : List ℕ → Option Init
init_of word =
    if bytes_eq word (codes "0") then Some init.Zero
    else if bytes_eq word (codes "1") then Some init.One
    else if is_one_of (codes "2" ∷ codes "3" ∷ []) word then Some init.Free
    else None

-- the type of a word
abbrev pub kind_named : List ℕ → Option LatchKind
kind_named word =
    if bytes_eq word (codes "re") then Some kinds.Rising
    else if bytes_eq word (codes "fe") then Some kinds.Falling
    else None

-- the control of a word, which NIL is not
abbrev pub control_of : List ℕ → Option (List ℕ)
control_of word = if bytes_eq word (codes "NIL") then None else Some word
