use Rattle.std.proofs.Common.{◌≡◌, map, take}
use Rattle.counter_run.specs.private.Matrix.{cell}
use Rattle.counter_run.proofs.matrix.gather.Given as goal

abbrev pub invariant-loop-node : goal.invariant-loop-node
invariant-loop-node l = l.found.items ≡ map (λ node. cell l.rows l.t node.0) (take l.node-index l.nodes)
