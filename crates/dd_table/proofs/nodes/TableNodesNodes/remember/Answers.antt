use Rattle.dd_recent.proofs.Remembering.{AreRight-adds}
use Rattle.dd_table.specs.Sessions.{store_of}
use Rattle.dd_table.proofs.nodes.TableNodesNodes.remember.Goals as goal

pub invariant_of-self-clause-right : goal.invariant_of-self-clause-right
invariant_of-self-clause-right c =
    AreRight-adds (store_of c.args.self.now.session) c.args.self.now.recent c.put.new.self c.args.operator c.args.first c.args.second c.args.third c.args.r
    c.put.ensures c.requires c.args.self.now.right
