use Rattle.std.proofs.Common.{refl}
use Rattle.dd_growing.specs.Growing.{grown_store}
use Rattle.dd_recent.proofs.Remembering.{AreRight-same}
use Rattle.dd_growing.proofs.nodes.GrowingNodes.begin.Goals as goal

pub invariant_of-self-clause-right : goal.invariant_of-self-clause-right
invariant_of-self-clause-right c =
    let s = c.args.self.now in
    AreRight-same (grown_store s.nodes.items s.base s.limit s.vars) (grown_store s.nodes.items c.len-self.result c.args.limit s.vars) s.recent refl refl s.right
