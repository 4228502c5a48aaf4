use Rattle.dd_nodes.specs.Stores.{node_of}
use Rattle.dd_table.proofs.Remembering.{AreRight-made}
use Rattle.dd_table.proofs.nodes.TableNodes.mk_counted.Goals as goal

pub invariant_of-self-clause-right : goal.invariant_of-self-clause-right
invariant_of-self-clause-right g c =
    AreRight-made c.args.self.now.session c.make_node.new.session (node_of c.args.var c.args.lo c.args.hi) c.args.self.now.recent c.make_node.result
    c.make_node.ensures.some c.make_node.ensures.none c.args.self.now.good c.make_node.ensures.good c.args.self.now.right
