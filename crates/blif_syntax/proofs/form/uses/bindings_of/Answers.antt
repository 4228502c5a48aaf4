use Rattle.blif_syntax.proofs.Bindings.{binding_turn}
use Rattle.blif_syntax.proofs.form.uses.bindings_of.Goals as goal

pub loop-word-preserved : goal.loop-word-preserved
loop-word-preserved c = binding_turn c.args.words.now c.loop-word.word-index c.word-item.result c.bytes.result.now c.in_ok-binding.field-0 c.in-Some.binding c.loop-word.bindings c.push.new.self _ c.loop-word-test.true c.word-item.is c.bytes.ensures c.in_ok-binding.ensures c.in-Some.is c.in_ok-push.ensures.ok c.loop-word.invariant
