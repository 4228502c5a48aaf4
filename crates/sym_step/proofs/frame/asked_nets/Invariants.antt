use Rattle.std.proofs.Common.{◌≡◌, ◌++◌, drop, map}
use Rattle.sym_step.proofs.frame.asked_nets.Given as goal

abbrev pub invariant-loop-node : goal.invariant-loop-node
invariant-loop-node l = l.ids.items ++ drop l.node-index l.weak ≡ l.weak

abbrev pub invariant-loop-c : goal.invariant-loop-c
invariant-loop-c l = l.ids.items ++ map (λ c. c.node) (drop l.c-index l.cuts) ≡ l.weak ++ map (λ c. c.node) l.cuts
