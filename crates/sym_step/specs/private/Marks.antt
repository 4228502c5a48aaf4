-- For private functions. Marks for gates, and bits at their places.
use Rattle.std.specs.Prelude.{◌≡◌, ◌<◌, ◌+◌, ◌/◌, ◌%◌, Bool, false, ℕ, List, length, slice_index_or}
use Rattle.std.specs.Int.{bit_at}
use Rattle.sym_step.specs.private.Readers.{flag_at}

-- the bit of a place, in words of 64
abbrev pub bit_of : List ℕ → ℕ → ℕ
bit_of words place = bit_at (slice_index_or words (place / 64) 0) (place % 64)

-- a gate has a place by its number
pub record IsPlace (order places : List ℕ) (place : ℕ) : Type 0 where
  pub inside : slice_index_or order place 0 < length order
  pub same : slice_index_or places (slice_index_or order place 0) 0 ≡ place

abbrev pub ArePlaces : List ℕ → List ℕ → Type 0
ArePlaces order places = (place : ℕ) → place < length order → IsPlace order places place

-- no gate has a mark at whose place the bit is 0
abbrev pub AreAsleep : List Bool → List ℕ → List ℕ → Type 0
AreAsleep flags order words =
    (place : ℕ) → place < length order → bit_of words place ≡ 0 →
    flag_at flags (slice_index_or order place 0) ≡ false

-- no latch has a mark whose bit is 0, the marks of latches being behind those of so many gates
abbrev pub AreResting : List Bool → ℕ → List ℕ → Type 0
AreResting flags gates words = (l : ℕ) → bit_of words l ≡ 0 → flag_at flags (gates + l) ≡ false
