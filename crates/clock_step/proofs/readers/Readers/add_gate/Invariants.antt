use Rattle.clock_step.specs.private.Readers.{AreChains}
use Rattle.clock_step.proofs.readers.Readers.add_gate.Given as goal

-- the inputs so far have slots
abbrev pub invariant-loop-input : goal.invariant-loop-input
invariant-loop-input l = AreChains l.net.raw l.net.settled l.place l.input-index l.self
