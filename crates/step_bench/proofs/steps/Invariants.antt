use Rattle.std.proofs.Common.{All}
use Rattle.sym_step.specs.Step.{IsCutOf}
use Rattle.step_bench.proofs.steps.Given as goal

abbrev pub invariant-loop : goal.invariant-loop
invariant-loop g l = All (IsCutOf (g.N.Nodes.store l.nodes) l.net.raw) l.cuts
