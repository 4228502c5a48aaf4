use Rattle.std.proofs.Common.{arith}
use Rattle.sym_step.proofs.Reading.{few_numbers}
use Rattle.sym_step.proofs.readers.Readers.of_net.Goals as goal

pub add_gates-requires-clause-few : goal.add_gates-requires-clause-few
add_gates-requires-clause-few c = let few = few_numbers c.args.net.now.raw c.args.net.now.in_range c.args.net.now.one_driver in omega (arith, few, c.nets.ensures)

pub add_latches-requires-clause-few : goal.add_latches-requires-clause-few
add_latches-requires-clause-few c = let few = few_numbers c.args.net.now.raw c.args.net.now.in_range c.args.net.now.one_driver in omega (arith, few, c.nets.ensures)
