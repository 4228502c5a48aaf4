use Rattle.std.proofs.Common.{◌<◌, ℕ, slice_index_or}
use Rattle.ste_model.specs.declared.task.Quint.{Quint}
use Rattle.ste_rules_tests.proofs.answers.speak_of_nets.Given as goal

abbrev pub invariant-loop-quint : goal.invariant-loop-quint
invariant-loop-quint l = record {
  nodes : (k : ℕ) (d : Quint) → k < l.quint-index → (slice_index_or l.quints k d).node.0 < l.nets;
}
