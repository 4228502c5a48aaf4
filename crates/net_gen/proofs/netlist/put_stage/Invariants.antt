use Rattle.std.proofs.Common.{◌≡◌, ◌++◌}
use Rattle.net_gen.specs.Pipeline.{bit_lines, for_below}
use Rattle.net_gen.proofs.netlist.put_stage.Given as goal

-- the bits so far are put
abbrev pub invariant-loop-bit : goal.invariant-loop-bit
invariant-loop-bit l = l.text.items ≡ l.fn.text.items ++ for_below l.bit (bit_lines l.stage)
