use Rattle.std.proofs.Common.{◌≡◌, take, map}
use Rattle.engine_parts.specs.Latches.{first_rails}
use Rattle.engine_parts.proofs.latches.first_sets.Given as goal

abbrev pub invariant-loop-latch : goal.invariant-loop-latch
invariant-loop-latch l = l.sets.items ≡ map (first_rails l.reset) (take l.latch-index l.latch-items)
