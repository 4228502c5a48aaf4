use Rattle.std.proofs.Common.{take}
use Rattle.std.specs.List.{flat_map}
use Rattle.task_binding.specs.Mentions.{edge_mentions}
use Rattle.task_binding.specs.private.Leading.{GoesOn}
use Rattle.task_binding.proofs.unknown.in_edges.Given as goal

-- what is found so far
abbrev pub invariant-loop-edge : goal.invariant-loop-edge
invariant-loop-edge g l = GoesOn (g.N.Resolve.net_of l.names) (flat_map edge_mentions (take l.edge-index l.edges)) l.initial.found l.found
