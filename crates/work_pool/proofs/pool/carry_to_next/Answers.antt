use Rattle.std.proofs.Common.{◌+◌, get_or, refl}
use Rattle.work_pool.proofs.Frames.{last_keeps}
use Rattle.work_pool.proofs.pool.carry_to_next.Goals as goal

pub returns-else-not-share_memo-clause-last : goal.returns-else-not-share_memo-clause-last
returns-else-not-share_memo-clause-last g c = λ net job range more f.
    let old = get_or c.args.jobs.now c.args.i job in
    let new = get_or c.share_memo.new.jobs (c.args.i + 1) job in
    last_keeps (g.N.Nodes.store old.nodes) (g.N.Nodes.store new.nodes) net c.args.last.now range (g.met.N.Nodes.diagram old.nodes) (g.met.N.Nodes.diagram new.nodes) (c.if-not-share_memo.ensures.all refl job) f
