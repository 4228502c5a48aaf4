use Rattle.std.proofs.Common.{◌≡◌, ◌<◌, ◌+◌, ℕ, length}
use Rattle.plain_check.specs.declared.found.Failure.{Failure}
use Rattle.plain_check.specs.private.Hops.{AreBest}
use Rattle.plain_check.proofs.paths.all_one_more.Given as goal

-- the vertices so far have their routes
abbrev pub invariant-loop-vertex : goal.invariant-loop-vertex
invariant-loop-vertex l = record {
  long : length l.more.items ≡ l.vertex;
  best : (how : Failure) (n : ℕ) → 0 < n → AreBest how l.hops n l.best → AreBest how l.hops (n + 1) l.more.items;
}
