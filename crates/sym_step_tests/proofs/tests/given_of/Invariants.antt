use Rattle.std.proofs.Common.{◌<◌, All}
use Rattle.sym_step_tests.proofs.tests.given_of.Given as goal

abbrev pub invariant-loop-span : goal.invariant-loop-span
invariant-loop-span l = All (λ quint. quint.node.0 < l.net.raw.nets) l.quints
