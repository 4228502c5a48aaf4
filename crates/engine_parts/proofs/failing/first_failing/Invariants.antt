use Rattle.std.proofs.Common.{◌≡◌, drop}
use Rattle.engine_parts.specs.Failing.{first_failing}
use Rattle.engine_parts.proofs.failing.first_failing.Given as goal

-- the rest decides
abbrev pub invariant-loop-c : goal.invariant-loop-c
invariant-loop-c l = first_failing l.failure l.nets (drop l.c-index l.cuts) ≡ first_failing l.failure l.nets l.cuts
