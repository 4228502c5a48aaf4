use Rattle.std.proofs.Common.{◌≡◌, ◌≤◌, ◌+◌, length}
use Rattle.bool_expr.specs.Tokens.{tokens_of}
use Rattle.bool_expr.specs.Read.{number_in, place_by, first_unknown}
use Rattle.bool_expr.specs.private.Build.{brackets_of, build_from, build_start}
use Rattle.bool_expr.proofs.build.expr_of.Given as goal

-- the tokens that are left decide, and no more `!` stand before the next factor than bytes are read
abbrev pub invariant-loop-token : goal.invariant-loop-token
invariant-loop-token l = record {
  known : first_unknown (number_in l.variables) (tokens_of l.rest) ≡ first_unknown (number_in l.variables) (tokens_of l.text);
  same : build_from (place_by (number_in l.variables)) (brackets_of l.build) (tokens_of l.rest) ≡ build_from (place_by (number_in l.variables)) build_start (tokens_of l.text);
  within : l.build.inner.signs + length l.rest ≤ length l.text;
}

abbrev pub decreases-loop-token : goal.decreases-loop-token
decreases-loop-token l = length l.rest
