use Rattle.aig_model.specs.Netlist.{output_item}
use Rattle.aig_reader.proofs.ModelParts.{zip_end, zip_turn}
use Rattle.aig_reader.proofs.netlist.add_outputs.Goals as goal

pub loop-at-preserved : goal.loop-at-preserved
loop-at-preserved c = zip_turn (output_item c.args.naming.now) c.args.outputs.now c.args.names.now
    c.loop-at.at _ c.index-names-at.result c.in_ok-output_item.field-0 c.loop-at.items
    c.push.new.self c.args.items.now c.requires c.loop-at-test.true c.index-names-at.is
    c.in_ok-output_item.ensures c.in_ok-push.ensures.ok c.loop-at.invariant

pub returns : goal.returns
returns c = zip_end (output_item c.args.naming.now) c.args.outputs.now c.args.names.now c.loop-at.at
    c.loop-at.items c.args.items.now c.loop-at-test.false c.loop-at.invariant
