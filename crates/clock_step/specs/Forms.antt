-- Meaning. What the lines of an input file spell, each by itself. The format is this project's own.
use Rattle.std.specs.Prelude.{ℕ, ◌∷◌, [], List, length, map, Bool, Option, Some, None, if◌then◌else◌, nat_eq, ◌&&◌, ◌||◌, bytes_eq, codes}
use Rattle.std.specs.List.{list_all}

-- the names of the first line, behind the word `.order`
abbrev pub order_of : List (List ℕ) → Option (List (List ℕ))
order_of [] = None
order_of (word ∷ names) = if bytes_eq word (codes ".order") then Some names else None

-- the characters 0 and 1, and whether it is the latter
abbrev pub is_zero_or_one : ℕ → Bool
is_zero_or_one byte = nat_eq byte 48 || nat_eq byte 49

abbrev pub is_one : ℕ → Bool
is_one byte = nat_eq byte 49

-- the bits of a word: one for each of so many names, or none for `-` where there are no names
abbrev pub word_bits : ℕ → List ℕ → Option (List Bool)
word_bits width word =
    if nat_eq width 0 then (if bytes_eq word (codes "-") then Some [] else None)
    else if nat_eq (length word) width && list_all is_zero_or_one word then Some (map is_one word)
    else None

-- the bits of a later line, which is one word
abbrev pub row_of : ℕ → List (List ℕ) → Option (List Bool)
row_of width [] = None
row_of width (word ∷ []) = word_bits width word
row_of width (word ∷ other ∷ words) = None
