use Rattle.dd_growing.specs.Growing.{grown_store}
use Rattle.dd_recent.proofs.Remembering.{IfSome-joined}
use Rattle.dd_growing.proofs.nodes.GrowingNodesNodes.recall.Goals as goal

pub returns : goal.returns
returns c =
    let s = c.args.self.now in
    IfSome-joined (grown_store s.nodes.items s.base s.limit s.vars) s.recent c.args.operator c.args.first c.args.second c.args.third c.find.result s.right c.find.ensures
