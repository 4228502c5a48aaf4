use Rattle.std.proofs.Common.{◌≡◌, ◌+◌, ◌*◌, length}
use Rattle.plain_check.specs.private.Hops.{IsSearched}
use Rattle.plain_check.proofs.paths.shortest_path.Given as goal

-- routes of so many hops were looked at
abbrev pub invariant-loop-2 : goal.invariant-loop-2
invariant-loop-2 l = record {
  long : length l.best.items ≡ l.vertices;
  searched : IsSearched l.fn.failure l.hops (l.counter-2 * (l.latches * 2 + 1) + l.counter + 1) l.best.items;
}

abbrev pub invariant-loop : goal.invariant-loop
invariant-loop l = record {
  long : length l.best.items ≡ l.vertices;
  searched : IsSearched l.fn.failure l.hops (l.counter * (l.latches * 2 + 1) + 1) l.best.items;
}
