use Rattle.std.proofs.Common.{◌≡◌, drop}
use Rattle.flat_net.specs.private.Drivers.{marks_with}
use Rattle.flat_net.proofs.drivers.mark_all.Given as goal

abbrev pub invariant-loop-node : goal.invariant-loop-node
invariant-loop-node l = marks_with l.marks.items (drop l.node-index l.nodes) ≡ marks_with l.fn.marks.items l.nodes
