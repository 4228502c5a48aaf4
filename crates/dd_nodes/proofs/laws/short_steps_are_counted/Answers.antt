use Rattle.dd_nodes.proofs.Spending.{too_few}
use Rattle.dd_nodes.proofs.laws.short_steps_are_counted.Goals as goal

pub returns : goal.returns
returns g c = λ fs before x.
    too_few fs before (g.N.Nodes.store c.args.nodes.now) (Unit {0}) (g.met.N.Nodes.diagram c.args.nodes.now) (g.met.N.Nodes.distinct c.args.nodes.now) (g.met.N.Nodes.made_held c.args.nodes.now) x tt
