use Rattle.std.proofs.Common.{take}
use Rattle.plain_check.specs.private.Hops.{AreHops}
use Rattle.plain_check.specs.States.{states_of}
use Rattle.plain_check.proofs.hops.hops_of.Given as goal

-- the edges so far have their hops
abbrev pub invariant-loop-edge : goal.invariant-loop-edge
invariant-loop-edge l = AreHops l.net.raw l.bits (states_of l.net.raw l.table) (take l.edge-index l.edge-items) l.hops.items
