use Rattle.std.proofs.Common.{◌≡◌, ◌++◌}
use Rattle.net_gen.specs.Pipeline.{ant_line, for_below}
use Rattle.net_gen.proofs.task.put_ants.Given as goal

-- the lines so far are put
abbrev pub invariant-loop-bit : goal.invariant-loop-bit
invariant-loop-bit l = l.text.items ≡ l.fn.text.items ++ for_below l.bit ant_line
