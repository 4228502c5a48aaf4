-- For private functions. The nets that are made: two covers, and gates that each drive the next net
-- from nets before it.
use Rattle.std.specs.Prelude.{◌≡◌, ◌∷◌, [], List, ℕ, ◌+◌, ◌<◌, All, length, true, slice_index_or}
use Rattle.net_core.specs.declared.cover.Cover.{Cover}
use Rattle.net_core.specs.declared.cover.Lit.{Lit}
use Rattle.net_core.specs.declared.cover.Lit.TheVariants.{Zero, One}
use Rattle.net_core.specs.declared.raw.Gate.{Gate}

-- a row of two literals
abbrev pub row_of : Lit → Lit → List Lit
row_of first second = first ∷ second ∷ []

abbrev pub and_cover : Cover
and_cover = record { inputs = 2; on = true; rows = row_of One One ∷ [] }

abbrev pub xor_cover : Cover
xor_cover = record { inputs = 2; on = true; rows = row_of One Zero ∷ row_of Zero One ∷ [] }

abbrev pub covers_of : List Cover
covers_of = and_cover ∷ xor_cover ∷ []

-- the gate of this number drives the net behind 8 free nets and so many gates, from two nets before
-- it
pub record IsGate (n : ℕ) (g : Gate) : Type 0 where
  pub output : g.output.0 ≡ n + 8
  pub inputs : All (λ input. input.0 < n + 8) g.inputs
  pub long : length g.inputs ≡ 2
  pub cover : g.cover < 2

-- the first n gates
pub record AreGates (n : ℕ) (gates : List Gate) : Type 0 where
  pub long : length gates ≡ n
  pub each : (k : ℕ) (d : Gate) → k < n → IsGate k (slice_index_or gates k d)
