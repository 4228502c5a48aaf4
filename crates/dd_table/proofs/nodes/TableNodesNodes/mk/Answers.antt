use Rattle.dd_nodes.specs.Stores.{node_of}
use Rattle.dd_table.proofs.Remembering.{AreRight-made}
use Rattle.dd_table.proofs.nodes.TableNodesNodes.mk.Goals as goal

pub invariant_of-self-clause-right : goal.invariant_of-self-clause-right
invariant_of-self-clause-right c =
    AreRight-made c.args.self.now.session c.make_uncounted.new.session (node_of c.args.var c.args.lo c.args.hi) c.args.self.now.recent c.make_uncounted.result
    c.make_uncounted.ensures.some c.make_uncounted.ensures.none c.args.self.now.good c.make_uncounted.ensures.good c.args.self.now.right
