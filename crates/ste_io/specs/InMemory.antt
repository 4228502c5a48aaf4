-- Meaning. Where files and sinks in memory fail. A call's number is counted from 1, and stands
-- still at its type's end.
use Rattle.std.specs.Prelude.{◌≡◌, ◌≤◌, ◌⊎◌, ◌+◌, ◌-◌, ◌^◌, ℕ, List, None, min}
use Rattle.std.specs.FinMap.{get}
use Rattle.std.specs.List.{Contains}
use Rattle.ste_io.specs.Outside.{StoredFiles}

-- the number of the call after so many
abbrev pub next : ℕ → ℕ
next calls = min (calls + 1) (2 ^ 64 - 1)

-- a fetch fails: its number is listed, or nothing stands under the name
abbrev pub FetchFails : List ℕ → ℕ → StoredFiles → List ℕ → Type 0
FetchFails failing fetches store name = Contains failing (next fetches) ⊎ (get store name ≡ None)

-- a write fails: its number is listed, or no room is left behind what was taken
abbrev pub WriteFails : List ℕ → ℕ → ℕ → ℕ → Type 0
WriteFails failing writes room taken = Contains failing (next writes) ⊎ (room ≤ taken)

-- how many bytes of a piece a write takes, where it does not fail
abbrev pub taken_at_once : ℕ → ℕ → ℕ → ℕ → ℕ
taken_at_once most room taken piece = min (min piece most) (room - taken)
