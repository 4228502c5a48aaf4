use Rattle.std.proofs.Common.{ℕ, ◌<◌}
use Rattle.graph_path.specs.private.Distances.{IsBeginning}
use Rattle.graph_path.proofs.route.first_beginning.Given as goal

-- no earlier hop may begin a route
abbrev pub invariant-loop-k : goal.invariant-loop-k
invariant-loop-k l = (m : ℕ) → m < l.k → ¬ IsBeginning l.hops l.far l.vertex l.left m
