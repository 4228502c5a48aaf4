use Rattle.std.proofs.Common.{List}
use Rattle.ste_base.specs.Functions.{Function}
use Rattle.dd_nodes.specs.Stores.{Store}
use Rattle.net_core.specs.Work.{time_work}
use Rattle.dual_rail.specs.Rail.{Whatever}
use Rattle.dual_rail.proofs.Works.{So-start, pass}
use Rattle.sym_step.proofs.time.renew_frame.Goals as goal

pub returns-in_err-renew_with-clause-built : goal.returns-in_err-renew_with-clause-built
returns-in_err-renew_with-clause-built g c = λ ls asked sets zip zipc weak family.
    let s : Store = g.N.Nodes.store c.args.nodes.now in
    let t : Store = g.N.Nodes.store c.renew_with.new.nodes in
    let work : List Function = time_work c.args.net.now.raw ls asked sets in
    pass work Whatever Whatever s s t c.in_err-renew_with.field-0.0 c.from_residual.result (g.met.N.Nodes.diagram c.args.nodes.now) (g.met.N.Nodes.diagram c.renew_with.new.nodes) (So-start work s)
    (c.in_err-renew_with.ensures.built ls asked sets zip zipc weak family) c.from_residual.ensures.1
