use Rattle.std.proofs.Common.{◌≡◌, ◌≤◌, drop, length}
use Rattle.gate_sets.specs.private.Ordered.{AreOrdered}
use Rattle.gate_sets.proofs.by_halves.are_ordered.Given as goal

-- the inputs from the last one seen on are in order
abbrev pub invariant-loop-k : goal.invariant-loop-k
invariant-loop-k g l = record {
  within : l.k ≤ length l.inputs;
  store : g.N.Nodes.store l.nodes ≡ g.N.Nodes.store l.fn.nodes;
  ordered : AreOrdered (g.N.Nodes.store l.fn.nodes) l.nets l.least (drop l.k l.inputs);
}

abbrev pub decreases-loop-k : goal.decreases-loop-k
decreases-loop-k g l = l.k
