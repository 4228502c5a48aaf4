use Rattle.std.proofs.Common.{◌≡◌, ◌≤◌, length}
use Rattle.bool_expr.specs.Tokens.{tokens_of}
use Rattle.bool_expr.proofs.token.without_blanks.Given as goal

-- only blanks are left out so far
abbrev pub invariant-loop-byte : goal.invariant-loop-byte
invariant-loop-byte l = (tokens_of l.rest ≡ tokens_of l.text) × (length l.rest ≤ length l.text)

abbrev pub decreases-loop-byte : goal.decreases-loop-byte
decreases-loop-byte l = length l.rest
