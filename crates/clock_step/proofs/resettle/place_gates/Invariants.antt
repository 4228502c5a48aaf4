use Rattle.clock_step.specs.private.Resettled.{AreTurned}
use Rattle.clock_step.proofs.resettle.place_gates.Given as goal

-- the gates so far are not due
abbrev pub invariant-loop-place : goal.invariant-loop-place
invariant-loop-place l = AreTurned l.net.raw l.net.settled l.place l.fn.bits l.bits l.due
