use Rattle.aig_model.specs.Netlist.{opposite_item}
use Rattle.aig_reader.proofs.ModelParts.{map_turn}
use Rattle.aig_reader.proofs.netlist.add_opposites.Goals as goal

pub loop-var-preserved : goal.loop-var-preserved
loop-var-preserved c = map_turn (opposite_item c.args.naming.now) c.args.vars.now
    c.loop-var.var-index _ c.in_ok-opposite_item.field-0 c.loop-var.items c.push.new.self
    c.args.items.now c.loop-var-test.true c.in_ok-opposite_item.ensures c.in_ok-push.ensures.ok
    c.loop-var.invariant
