use Rattle.std.proofs.Common.{◌≡◌, ◌≤◌, length}
use Rattle.sym_step.specs.private.Demands.{AreFlaggedNets, AreLinked}
use Rattle.sym_step.proofs.demands.links_of.Given as goal

-- the cuts from a place on are linked
abbrev pub invariant-loop-at : goal.invariant-loop-at
invariant-loop-at l = record {
  within : l.at ≤ length l.cuts;
  long : length l.is_asked.items ≡ l.nets;
  linked : AreLinked l.cuts l.at l.is_asked.items l.first.items l.next.items;
  flagged : AreFlaggedNets l.weak l.is_asked.items;
}

abbrev pub decreases-loop-at : goal.decreases-loop-at
decreases-loop-at l = l.at
