use Rattle.dd_growing.specs.Growing.{grown_store}
use Rattle.dd_recent.proofs.Remembering.{AreRight-adds}
use Rattle.dd_growing.proofs.nodes.GrowingNodesNodes.remember.Goals as goal

pub invariant_of-self-clause-right : goal.invariant_of-self-clause-right
invariant_of-self-clause-right c =
    let s = c.args.self.now in
    AreRight-adds (grown_store s.nodes.items s.base s.limit s.vars) s.recent c.put.new.self c.args.operator c.args.first c.args.second c.args.third c.args.r
    c.put.ensures c.requires s.right
