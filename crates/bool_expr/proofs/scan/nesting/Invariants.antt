use Rattle.std.proofs.Common.{◌≡◌, length}
use Rattle.bool_expr.specs.Tokens.{tokens_of}
use Rattle.bool_expr.specs.Scan.{scan_state, scan_from, scan_start}
use Rattle.bool_expr.proofs.scan.nesting.Given as goal

-- the tokens that are left decide
abbrev pub invariant-loop-token : goal.invariant-loop-token
invariant-loop-token l = scan_from 101 (scan_state l.scan) (tokens_of l.rest) ≡ scan_from 101 scan_start (tokens_of l.text)

abbrev pub decreases-loop-token : goal.decreases-loop-token
decreases-loop-token l = length l.rest
