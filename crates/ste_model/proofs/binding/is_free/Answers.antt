use Rattle.ste_model.proofs.Bindings.{facts_of, free_undriven, gate_drives, input_undriven, latch_drives, says_no, says_yes}
use Rattle.ste_model.proofs.binding.is_free.Goals as goal

pub returns-in-Input : goal.returns-in-Input
returns-in-Input c = says_yes (input_undriven c.args.net.now.raw c.args.node.0 c.source.result c.in-Input.is (facts_of c.args.net.now.raw c.args.node.0 c.source.result c.args.net.now.one_driver c.source.ensures))

pub returns-in-Free : goal.returns-in-Free
returns-in-Free c = says_yes (free_undriven c.args.net.now.raw c.args.node.0 c.source.result c.in-Free.is (facts_of c.args.net.now.raw c.args.node.0 c.source.result c.args.net.now.one_driver c.source.ensures))

pub returns-in-Gate : goal.returns-in-Gate
returns-in-Gate c = says_no (gate_drives c.args.net.now.raw c.args.node.0 c.in-Gate.field-0 c.source.result c.in-Gate.is (facts_of c.args.net.now.raw c.args.node.0 c.source.result c.args.net.now.one_driver c.source.ensures))

pub returns-in-Latch : goal.returns-in-Latch
returns-in-Latch c = says_no (latch_drives c.args.net.now.raw c.args.node.0 c.in-Latch.field-0 c.source.result c.in-Latch.is (facts_of c.args.net.now.raw c.args.node.0 c.source.result c.args.net.now.one_driver c.source.ensures))
