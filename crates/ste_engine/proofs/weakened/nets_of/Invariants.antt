use Rattle.std.proofs.Common.{◌≡◌, ◌++◌, drop, map}
use Rattle.ste_engine.proofs.weakened.nets_of.Given as goal

-- with the rest it is all
abbrev pub invariant-loop-c : goal.invariant-loop-c
invariant-loop-c l = l.nets.items ++ map (λ c. c.node) (drop l.c-index l.cuts) ≡ map (λ c. c.node) l.cuts
