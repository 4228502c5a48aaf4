use Rattle.std.proofs.Common.{◌≡◌, ◌++◌}
use Rattle.net_gen.specs.Pipeline.{con_line, for_below}
use Rattle.net_gen.proofs.task.put_cons.Given as goal

-- the lines so far are put
abbrev pub invariant-loop-bit : goal.invariant-loop-bit
invariant-loop-bit l = l.text.items ≡ l.fn.text.items ++ for_below l.bit (con_line l.n)
