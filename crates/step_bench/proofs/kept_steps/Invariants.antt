use Rattle.std.proofs.Common.{All}
use Rattle.sym_step.specs.Step.{IsCutOf}
use Rattle.sym_step.specs.Frame.{IsFrame}
use Rattle.step_bench.proofs.kept_steps.Given as goal

abbrev pub invariant-loop : goal.invariant-loop
invariant-loop g l = record {
  cuts : All (IsCutOf (g.N.Nodes.store l.nodes) l.net.raw) l.cuts;
  frame : IsFrame (g.N.Nodes.store l.nodes) l.net.raw l.frame;
}
