use Rattle.std.proofs.Common.{◌≡◌, ℕ, ◌<◌, ◌≤◌, false, get_or}
use Rattle.exact_engine.proofs.breaking.first_opposite.Given as goal

-- the row has the bit so far
abbrev pub invariant-loop-t : goal.invariant-loop-t
invariant-loop-t l = (t : ℕ) → l.from ≤ t → t < l.t → get_or l.row t false ≡ l.bit
