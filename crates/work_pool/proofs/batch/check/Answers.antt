use Rattle.work_pool.proofs.Frames.{last_keeps}
use Rattle.work_pool.proofs.batch.check.Goals as goal

pub returns-in-Gste-clause-last : goal.returns-in-Gste-clause-last
returns-in-Gste-clause-last g c =
    let s = g.N.Nodes.store c.args.nodes.now in
    let t = g.N.Nodes.store c.check_vertices.new.nodes in
    let net = c.args.batch.now.net.now in
    last_keeps s t net.raw c.args.last.now net.in_range (g.met.N.Nodes.diagram c.args.nodes.now) (g.met.N.Nodes.diagram c.check_vertices.new.nodes) c.check_vertices.ensures.keeps c.requires.last
