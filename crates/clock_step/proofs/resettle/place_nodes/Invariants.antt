use Rattle.clock_step.specs.private.Resettled.{AreFirstPlaced}
use Rattle.clock_step.proofs.resettle.place_nodes.Given as goal

-- the nodes so far have their bits
abbrev pub invariant-loop-k : goal.invariant-loop-k
invariant-loop-k l = AreFirstPlaced l.net.raw l.net.settled l.nodes l.k l.row l.fn.bits l.bits l.due
