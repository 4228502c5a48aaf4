use Rattle.std.proofs.Common.{All, ◌<◌}
use Rattle.plain_check_tests.proofs.tests.binds_of.Given as goal

-- the bindings so far ask of nets that there are
abbrev pub invariant-loop-node : goal.invariant-loop-node
invariant-loop-node l = All (λ bind. bind.node.0 < l.nets) l.binds
