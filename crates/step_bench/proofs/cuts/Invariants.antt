use Rattle.std.proofs.Common.{◌≡◌, ◌≤◌, All, length}
use Rattle.sym_step.specs.Step.{IsCutOf}
use Rattle.step_bench.proofs.cuts.Given as goal

abbrev pub invariant-loop-v : goal.invariant-loop-v
invariant-loop-v g l = record {
  long : length l.cuts.items ≡ l.vars;
  store : 8 ≤ (g.N.Nodes.store l.nodes).vars;
  each : All (IsCutOf (g.N.Nodes.store l.nodes) l.net.raw) l.cuts.items;
}
