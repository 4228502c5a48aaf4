use Rattle.std.proofs.Common.{◌≡◌, ◌++◌}
use Rattle.std.specs.Prelude.{codes}
use Rattle.net_gen.specs.Pipeline.{for_below, net_of}
use Rattle.net_gen.proofs.netlist.put_nets.Given as goal

-- the nets so far are put
abbrev pub invariant-loop-bit : goal.invariant-loop-bit
invariant-loop-bit l = l.text.items ≡ l.fn.text.items ++ for_below l.bit (λ bit. codes " " ++ net_of l.stage bit)
