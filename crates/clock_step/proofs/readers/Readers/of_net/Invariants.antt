use Rattle.clock_step.specs.private.Readers.{AreChains}
use Rattle.clock_step.proofs.readers.Readers.of_net.Given as goal

-- the inputs of the gates so far have slots
abbrev pub invariant-loop-place : goal.invariant-loop-place
invariant-loop-place l = AreChains l.net.raw l.net.settled l.place 0 l.readers
