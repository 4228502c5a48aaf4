-- Condition. What the host's steps take of readers, where it is known what these have left.
use Rattle.std.specs.Prelude.{◌≡◌, ◌≤◌, ◌++◌, ℕ, true, Bool, List, length, Option, Result, Ok}
use Rattle.std.specs.Io.KnownBytes.{Consumes, IsAtEnd}
use Rattle.ste_io.specs.declared.files.FetchFault.{FetchFault}

-- of the bytes that a reader had left no more than so many were taken
abbrev pub TakesAtMost : Option (List ℕ) → Option (List ℕ) → ℕ → Type 0
TakesAtMost old new most = (taken : List ℕ) × (length taken ≤ most) × Consumes old new taken

-- some bytes more were taken, and stand behind those that were read before, at most `most` with
-- these; at the end nothing more was there, and nothing is left
pub record ReadOn (old new : Option (List ℕ)) (before after : List ℕ) (most : ℕ)
    (result : Result Bool FetchFault) : Type 0 where
  pub taken : List ℕ
  pub few : length (before ++ taken) ≤ most
  pub takes : Consumes old new taken
  pub put : (more : Bool) → result ≡ Ok more → after ≡ before ++ taken
  pub end : result ≡ Ok true → IsAtEnd new × (after ≡ before)
