use Rattle.std.proofs.Common.{All, ◌<◌}
use Rattle.plain_check_tests.proofs.tests.quints_of.Given as goal

-- the quintuples so far ask of nets that there are
abbrev pub invariant-loop-node : goal.invariant-loop-node
invariant-loop-node l = All (λ quint. quint.node.0 < l.nets) l.quints
