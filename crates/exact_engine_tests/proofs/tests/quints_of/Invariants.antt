use Rattle.std.proofs.Common.{All, ◌<◌}
use Rattle.ste_model.specs.Need.{ReadBelow}
use Rattle.exact_engine_tests.proofs.tests.quints_of.Given as goal

abbrev pub invariant-loop-name : goal.invariant-loop-name
invariant-loop-name l = record {
  nodes : All (λ quint. quint.node.0 < l.nets) l.quints;
  reads : ReadBelow 2 l.quints;
}
