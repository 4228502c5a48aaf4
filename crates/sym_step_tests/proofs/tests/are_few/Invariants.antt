use Rattle.std.proofs.Common.{◌≤◌, All, take}
use Rattle.net_core.specs.Cases.{cases_of}
use Rattle.sym_step_tests.proofs.tests.are_few.Given as goal

abbrev pub invariant-loop-cover : goal.invariant-loop-cover
invariant-loop-cover l = record {
  inputs : All (λ cover. cover.inputs ≤ 1000) (take l.cover-index l.covers);
  cases : All (λ cover. cases_of cover.inputs cover.rows ≤ 65536) (take l.cover-index l.covers);
}
