use Rattle.std.proofs.Common.{subst}
use Rattle.ste_base.specs.Functions.{Function}
use Rattle.dd_nodes.specs.Stores.{Store}
use Rattle.dd_ops.specs.Answer.{Answer}
use Rattle.dual_rail.proofs.Firsts.{except_is}
use Rattle.dual_rail.proofs.first.except.Goals as goal

pub returns : goal.returns
returns g c =
    let s : Store = g.N.Nodes.store c.args.nodes.now in
    subst (λ (f : Function). Answer f s (g.N.Nodes.store c.ite.new.nodes) c.ite.result) (except_is s c.args.a c.args.b (g.met.N.Nodes.diagram c.args.nodes.now)) c.ite.ensures
