use Rattle.aig_model.specs.Names.{own_outputs}
use Rattle.aig_reader.proofs.Labels.{output_turn}
use Rattle.aig_reader.proofs.naming.own_outputs.Goals as goal

pub loop-number-preserved : goal.loop-number-preserved
loop-number-preserved c = output_turn c.loop-number.number c.loop-number.number c.args.outputs.now
    c.loop-number.owns c.push.new.self (own_outputs 0 c.args.outputs.now) c.in_ok-own_output.field-0
    c.loop-number-test.true c.in_ok-own_output.ensures c.in_ok-push.ensures.ok
    c.loop-number.invariant
