use Rattle.std.proofs.Common.{◌<◌, All}
use Rattle.sym_step_tests.proofs.tests.drawn_weak.Given as goal

abbrev pub invariant-loop-id : goal.invariant-loop-id
invariant-loop-id l = All (λ node. node.0 < l.net.raw.nets) l.nodes.items
