use Rattle.std.proofs.Common.{◌≡◌, ◌<◌, All, length}
use Rattle.sym_step_tests.proofs.tests.and_of.Given as goal

-- the first nets are there, with a literal each
abbrev pub invariant-loop-k : goal.invariant-loop-k
invariant-loop-k l = record {
  long : length l.row ≡ l.k;
  many : length l.nets ≡ l.k;
  inside : All (λ n. n.0 < l.inputs) l.nets;
}
