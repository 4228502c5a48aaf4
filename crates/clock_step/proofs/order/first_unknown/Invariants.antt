use Rattle.std.proofs.Common.{◌≡◌, drop}
use Rattle.clock_step.specs.Order.{first_unknown_net}
use Rattle.clock_step.proofs.order.first_unknown.Given as goal

-- the names that are left decide
abbrev pub invariant-loop-word : goal.invariant-loop-word
invariant-loop-word g l = first_unknown_net (g.N.Resolve.net_of l.names) (drop l.word-index l.words) ≡ first_unknown_net (g.N.Resolve.net_of l.names) l.words
