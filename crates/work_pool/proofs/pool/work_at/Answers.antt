use Rattle.std.proofs.Common.{Option, subst, sym}
use Rattle.std.specs.Prelude.{IfSome}
use Rattle.dd_nodes.specs.Stores.{Store}
use Rattle.sym_step.specs.declared.frame.Frame.{Frame}
use Rattle.sym_step.specs.Frame.{IsFrame}
use Rattle.work_pool.proofs.pool.work_at.Goals as goal

pub returns-clause-last : goal.returns-clause-last
returns-clause-last g c =
    let s : Store = g.N.Nodes.store c.work.new.job.nodes in
    let net = c.args.batch.now.net.now.raw in
    c.frame_to_carry.ensures s net (g.met.N.Nodes.diagram c.work.new.job.nodes) (subst (λ (o : Option Frame). IfSome o (IsFrame s net)) (sym c.take.ensures.value) c.work.ensures.last)
