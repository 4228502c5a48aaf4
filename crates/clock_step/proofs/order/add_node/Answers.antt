use Rattle.clock_step.proofs.Named.{double_is}
use Rattle.clock_step.proofs.order.add_node.Goals as goal

pub returns-in_ok-insert-in-Some-clause-double : goal.returns-in_ok-insert-in-Some-clause-double
returns-in_ok-insert-in-Some-clause-double c = rw c.in-Some.is (double_is c.args.nodes.now.keys c.in-Some.node _ c.in_ok-insert-in-Some.ensures.added)
