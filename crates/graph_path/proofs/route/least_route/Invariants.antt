use Rattle.graph_path.proofs.Walks.{WalkedSoFar}
use Rattle.graph_path.proofs.route.least_route.Given as goal

abbrev pub invariant-loop-n : goal.invariant-loop-n
invariant-loop-n l = WalkedSoFar l.hops l.far l.vertex l.left l.path

abbrev pub decreases-loop-n : goal.decreases-loop-n
decreases-loop-n l = l.left
