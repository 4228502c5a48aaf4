use Rattle.std.proofs.Common.{All}
use Rattle.sym_step.specs.Step.{IsCutOf}
use Rattle.sym_step_tests.proofs.tests.cuts_of.Given as goal

abbrev pub invariant-loop-a : goal.invariant-loop-a
invariant-loop-a g l = All (IsCutOf (g.N.Nodes.store l.fn.nodes) l.fn.net.raw) l.cuts.items
