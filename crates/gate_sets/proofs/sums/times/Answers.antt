use Rattle.std.proofs.Common.{[]}
use Rattle.dd_nodes.specs.Stores.{Store}
use Rattle.net_core.specs.Work.{conjunction, factor}
use Rattle.dual_rail.proofs.Works.{here, and_built}
use Rattle.gate_sets.proofs.sums.times.Goals as goal

pub returns-clause-built : goal.returns-clause-built
returns-clause-built g c = λ f w mf mw.
    let s : Store = g.N.Nodes.store c.args.nodes.now in
    and_built _ f (factor c.args.lit w) s (g.N.Nodes.store c.both.new.nodes) c.args.all c.factor.result c.both.result (here (conjunction f (factor c.args.lit w)) []) mf (c.factor.ensures.means s w mw) c.both.ensures
