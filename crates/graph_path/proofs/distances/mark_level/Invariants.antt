use Rattle.graph_path.proofs.Levels.{MarkedSoFar}
use Rattle.graph_path.proofs.distances.mark_level.Given as goal

abbrev pub invariant-loop-hop : goal.invariant-loop-hop
invariant-loop-hop l = MarkedSoFar l.hops l.level l.fn.far.items l.far.items l.hop-index l.changed
