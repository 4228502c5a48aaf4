use Rattle.task_binding.specs.Mentions.{edge_mentions}
use Rattle.task_binding.proofs.Leading.{item_on, items_end}
use Rattle.task_binding.proofs.unknown.in_edges.Goals as goal

pub loop-edge-preserved : goal.loop-edge-preserved
loop-edge-preserved g c = item_on (g.N.Resolve.net_of c.args.names.now) edge_mentions c.args.edges.now c.loop-edge.edge-index c.edge-item.result _ _ _ c.loop-edge-test.true c.edge-item.is c.loop-edge.invariant c.in_ok-found.ensures

pub returns : goal.returns
returns g c = items_end (g.N.Resolve.net_of c.args.names.now) edge_mentions c.args.edges.now c.loop-edge.edge-index _ _ c.loop-edge-test.false c.loop-edge.invariant
