use Rattle.std.proofs.Common.{◌≡◌, drop}
use Rattle.clock_step.specs.Order.{first_driven}
use Rattle.clock_step.proofs.order.first_driven.Given as goal

-- the names that are left decide
abbrev pub invariant-loop-word : goal.invariant-loop-word
invariant-loop-word g l = first_driven (g.N.Resolve.net_of l.names) l.net.raw (drop l.word-index l.words) ≡ first_driven (g.N.Resolve.net_of l.names) l.net.raw l.words
