use Rattle.ste_model.proofs.Bindings.{facts_of, free_no_latch, gate_no_latch, input_no_latch, latch_output, says_no, says_yes}
use Rattle.ste_model.proofs.binding.is_latch_output.Goals as goal

pub returns-in-Input : goal.returns-in-Input
returns-in-Input c = says_no (input_no_latch c.args.net.now.raw c.args.node.0 c.source.result c.in-Input.is (facts_of c.args.net.now.raw c.args.node.0 c.source.result c.args.net.now.one_driver c.source.ensures))

pub returns-in-Free : goal.returns-in-Free
returns-in-Free c = says_no (free_no_latch c.args.net.now.raw c.args.node.0 c.source.result c.in-Free.is (facts_of c.args.net.now.raw c.args.node.0 c.source.result c.args.net.now.one_driver c.source.ensures))

pub returns-in-Gate : goal.returns-in-Gate
returns-in-Gate c = says_no (gate_no_latch c.args.net.now.raw c.args.node.0 c.in-Gate.field-0 c.source.result c.in-Gate.is (facts_of c.args.net.now.raw c.args.node.0 c.source.result c.args.net.now.one_driver c.source.ensures))

pub returns-in-Latch : goal.returns-in-Latch
returns-in-Latch c = says_yes (latch_output c.args.net.now.raw c.args.node.0 c.in-Latch.field-0 c.source.result c.in-Latch.is (facts_of c.args.net.now.raw c.args.node.0 c.source.result c.args.net.now.one_driver c.source.ensures))
