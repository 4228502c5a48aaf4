use Rattle.net_gen.specs.Pipeline.{stage_lines}
use Rattle.net_gen.proofs.Below.{one_more}
use Rattle.net_gen.proofs.netlist.put_stages.Goals as goal

pub loop-stage-preserved : goal.loop-stage-preserved
loop-stage-preserved c =
    one_more stage_lines c.loop-stage.stage c.args.text.now.items c.loop-stage.text.items c.put_stage.new.text.items c.loop-stage.invariant c.in_ok-put_stage.ensures
