use Rattle.std.proofs.Common.{◌<◌, All}
use Rattle.sym_step_tests.proofs.tests.add_given.Given as goal

abbrev pub invariant-loop-a : goal.invariant-loop-a
invariant-loop-a l = All (λ quint. quint.node.0 < l.fn.net.raw.nets) l.fn.given → All (λ quint. quint.node.0 < l.fn.net.raw.nets) l.given
