-- For private functions. The places of numbers in a list, as a map holds them.
use Rattle.std.specs.Prelude.{ℕ, Bool, Option, None, Some, if◌then◌else◌}

-- the place that a map has for a number, once another one is added at place n, where both are the
-- same or not
abbrev pub with_place : Option ℕ → Bool → ℕ → Option ℕ
with_place (Some place) same n = Some place
with_place None same n = if same then Some n else None
