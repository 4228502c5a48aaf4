use Rattle.std.proofs.Common.{◌≡◌, ◌<◌, ℕ, [], false, get_or}
use Rattle.plain_check.specs.private.Outcome.{fails_at}
use Rattle.plain_check.proofs.found.fails_somewhere.Given as goal

-- nothing has failed so far
abbrev pub invariant-loop-t : goal.invariant-loop-t
invariant-loop-t l = (t : ℕ) → t < l.t → fails_at l.failure (get_or l.rows t []) l.quints l.bits t ≡ false
