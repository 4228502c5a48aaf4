use Rattle.std.proofs.Common.{ap, arith, length}
use Rattle.net_gen.proofs.Short.{short_netlist, short_task}
use Rattle.net_gen.proofs.texts.pipeline.Goals as goal

pub returns-clause-small_net : goal.returns-clause-small_net
returns-clause-small_net c = omega (arith, ap length c.in_ok-net.ensures, short_netlist c.args.n c.requires)

pub returns-clause-small_tasks : goal.returns-clause-small_tasks
returns-clause-small_tasks c = omega (arith, ap length c.in_ok-tasks.ensures, short_task c.args.n c.requires)
