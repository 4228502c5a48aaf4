use Rattle.std.proofs.Common.{[]}
use Rattle.aig_model.specs.Names.{variable_name}
use Rattle.aig_reader.proofs.ModelParts.{map_turn}
use Rattle.aig_reader.proofs.netlist.variable_names.Goals as goal

pub loop-var-preserved : goal.loop-var-preserved
loop-var-preserved c = map_turn (variable_name c.args.naming.now) c.args.vars.now
    c.loop-var.var-index _ c.in_ok-variable_name.field-0 c.loop-var.names c.push.new.self []
    c.loop-var-test.true c.in_ok-variable_name.ensures c.in_ok-push.ensures.ok c.loop-var.invariant
