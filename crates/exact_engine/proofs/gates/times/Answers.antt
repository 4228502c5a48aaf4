use Rattle.exact_engine.proofs.Rows.{times_one, times_zero}
use Rattle.exact_engine.proofs.gates.times.Goals as goal

pub returns-in-Zero : goal.returns-in-Zero
returns-in-Zero g c = λ f b ma mb. times_zero (g.N.Nodes.store c.args.nodes.now) (g.N.Nodes.store c.ite.new.nodes) c.args.all c.args.bit c.args.lit f b c.ite.result (g.met.N.Nodes.diagram c.args.nodes.now) c.in-Zero.is ma mb c.ite.ensures

pub returns-in-One : goal.returns-in-One
returns-in-One g c = λ f b ma mb. times_one (g.N.Nodes.store c.args.nodes.now) (g.N.Nodes.store c.both.new.nodes) c.args.all c.args.bit c.args.lit f b c.both.result c.in-One.is ma mb c.both.ensures
