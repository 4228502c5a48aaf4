use Rattle.std.proofs.Common.{All, ◌<◌}
use Rattle.plain_check_tests.proofs.tests.edges_of.Given as goal

-- the edges so far lie between the vertices, and ask of nets that there are
abbrev pub invariant-loop-case : goal.invariant-loop-case
invariant-loop-case l = record {
  from : All (λ edge. edge.from < l.vertices) l.edges;
  to : All (λ edge. edge.to < l.vertices) l.edges;
  asks : All (λ edge. All (λ bind. bind.node.0 < l.nets) edge.ant) l.edges;
}
