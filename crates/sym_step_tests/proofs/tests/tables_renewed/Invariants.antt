use Rattle.std.proofs.Common.{All}
use Rattle.sym_step.specs.Frame.{IsFrame}
use Rattle.sym_step.specs.Step.{IsCutOf}
use Rattle.sym_step_tests.proofs.tests.tables_renewed.Given as goal

-- what the next time goes on with is sound
abbrev pub invariant-loop-time : goal.invariant-loop-time
invariant-loop-time g l = record {
  cuts : All (IsCutOf (g.N.Nodes.store l.nodes) l.net.raw) l.fn.cuts;
  frame : IsFrame (g.N.Nodes.store l.nodes) l.net.raw l.frame;
}
