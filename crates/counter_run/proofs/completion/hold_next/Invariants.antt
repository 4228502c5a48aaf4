use Rattle.std.proofs.Common.{◌≡◌, map, take}
use Rattle.clock_step.specs.Determined.{bit_at}
use Rattle.counter_run.proofs.completion.hold_next.Given as goal

abbrev pub invariant-loop-latch : goal.invariant-loop-latch
invariant-loop-latch l = l.held.items ≡ map (λ latch. bit_at l.bits latch.input.0) (take l.latch-index l.net.raw.latches)
