use Rattle.dd_recent.proofs.Remembering.{IfSome-joined}
use Rattle.dd_table.specs.Sessions.{store_of}
use Rattle.dd_table.proofs.nodes.TableNodesNodes.recall.Goals as goal

pub returns : goal.returns
returns c = IfSome-joined (store_of c.args.self.now.session) c.args.self.now.recent c.args.operator c.args.first c.args.second c.args.third c.find.result c.args.self.now.right c.find.ensures
