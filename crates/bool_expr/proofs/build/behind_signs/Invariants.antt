use Rattle.std.proofs.Common.{◌≡◌}
use Rattle.bool_expr.specs.Tree.{tree_of}
use Rattle.bool_expr.specs.private.Build.{behind_signs}
use Rattle.bool_expr.proofs.build.behind_signs.Given as goal

-- the `!` that are left decide
abbrev pub invariant-loop-left : goal.invariant-loop-left
invariant-loop-left l = behind_signs l.left (tree_of l.whole) ≡ behind_signs l.signs (tree_of l.fn.expr)

abbrev pub decreases-loop-left : goal.decreases-loop-left
decreases-loop-left l = l.left
