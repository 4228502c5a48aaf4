use Rattle.std.proofs.Common.{◌≡◌, drop}
use Rattle.sym_step.specs.Frame.{nets_of}
use Rattle.ste_engine.specs.private.Firsts.{are_fixed}
use Rattle.ste_engine.proofs.firsts.are_fixed.Given as goal

-- the rest decides
abbrev pub invariant-loop-c : goal.invariant-loop-c
invariant-loop-c l = are_fixed (nets_of l.frame) (drop l.c-index l.cuts) ≡ are_fixed (nets_of l.frame) l.cuts
