use Rattle.std.proofs.Common.{All, ◌<◌}
use Rattle.ste_model.specs.GraphNeed.{BindsReadBelow}
use Rattle.gste_engine_tests.proofs.cases.binds_of.Given as goal

-- the bindings so far are over the net and the variable
abbrev pub invariant-loop-node : goal.invariant-loop-node
invariant-loop-node l = record {
  nets : All (λ bind. bind.node.0 < 2) l.binds;
  reads : BindsReadBelow 1 l.binds;
}
