-- For private functions. What rows say for each choice of digits for the inputs. A choice is a
-- number: its digits, from the lowest on, are what the inputs have, from the first on, a bit to the
-- base 2, or a set of bits to the base 4, 1 where the set has 0, and 2 more where it has 1.
use Rattle.std.specs.Prelude.{◌-◌, ◌/◌, ℕ, min, max, List, [], ◌∷◌}
use Rattle.std.specs.Int.{bit_at}
use Rattle.net_core.specs.declared.cover.Lit.{Lit}
use Rattle.net_core.specs.declared.cover.Lit.TheVariants.{Zero, One, Any}
use Rattle.gate_sets.specs.declared.words.Digits.{Digits}
use Rattle.gate_sets.specs.declared.words.Digits.TheVariants.{Bits, Sets}

-- the base
abbrev pub base_of : Digits → ℕ
base_of Bits = 2
base_of Sets = 4

-- the most inputs of which a word has a bit for each choice
abbrev pub most_of : Digits → ℕ
most_of Bits = 6
most_of Sets = 3

-- 1 where the literal admits the bit, or some bit of the set, that is the lowest digit
abbrev pub lit_bit : Digits → Lit → ℕ → ℕ
lit_bit Bits Zero choice = 1 - bit_at choice 0
lit_bit Bits One choice = bit_at choice 0
lit_bit Bits Any choice = 1
lit_bit Sets Zero choice = bit_at choice 0
lit_bit Sets One choice = bit_at choice 1
lit_bit Sets Any choice = max (bit_at choice 0) (bit_at choice 1)

-- 1 where each literal of the row does so with its digit
abbrev pub row_bit : Digits → List Lit → ℕ → ℕ
row_bit digits [] choice = 1
row_bit digits (lit ∷ row) choice =
    min (lit_bit digits lit choice) (row_bit digits row (choice / base_of digits))

-- 1 where some row does
abbrev pub rows_bit : Digits → List (List Lit) → ℕ → ℕ
rows_bit digits [] choice = 0
rows_bit digits (row ∷ rows) choice = max (row_bit digits row choice) (rows_bit digits rows choice)
