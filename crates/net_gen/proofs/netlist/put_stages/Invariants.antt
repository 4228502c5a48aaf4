use Rattle.std.proofs.Common.{◌≡◌, ◌++◌}
use Rattle.net_gen.specs.Pipeline.{for_below, stage_lines}
use Rattle.net_gen.proofs.netlist.put_stages.Given as goal

-- the stages so far are put
abbrev pub invariant-loop-stage : goal.invariant-loop-stage
invariant-loop-stage l = l.text.items ≡ l.fn.text.items ++ for_below l.stage stage_lines
