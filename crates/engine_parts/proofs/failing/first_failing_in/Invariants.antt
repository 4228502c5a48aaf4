use Rattle.std.proofs.Common.{◌≡◌, drop}
use Rattle.sym_step.specs.Frame.{nets_of}
use Rattle.engine_parts.specs.Failing.{first_failing}
use Rattle.engine_parts.proofs.failing.first_failing_in.Given as goal

-- the rest decides
abbrev pub invariant-loop-c : goal.invariant-loop-c
invariant-loop-c l = first_failing l.failure (nets_of l.frame) (drop l.c-index l.cuts) ≡ first_failing l.failure (nets_of l.frame) l.cuts
