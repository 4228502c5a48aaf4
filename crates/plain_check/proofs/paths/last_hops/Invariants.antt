use Rattle.std.proofs.Common.{◌≡◌, length}
use Rattle.plain_check.specs.private.Hops.{AreBest}
use Rattle.plain_check.proofs.paths.last_hops.Given as goal

-- the vertices so far have their routes
abbrev pub invariant-loop-vertex : goal.invariant-loop-vertex
invariant-loop-vertex l = record {
  long : length l.best.items ≡ l.vertex;
  best : AreBest l.failure l.hops 1 l.best.items;
}
