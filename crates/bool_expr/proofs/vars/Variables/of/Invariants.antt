use Rattle.std.proofs.Common.{◌≡◌, take}
use Rattle.bool_expr.proofs.vars.Variables.of.Given as goal

-- the variables so far
abbrev pub invariant-loop-name : goal.invariant-loop-name
invariant-loop-name l = l.variables ≡ take l.name-index l.names
