use Rattle.std.proofs.Common.{All}
use Rattle.gste_engine_tests.specs.Cases.{IsCaseEdge}
use Rattle.gste_engine_tests.proofs.cases.edges_of.Given as goal

-- the edges so far lie between the vertices, and are over the nets and the variable
abbrev pub invariant-loop-case : goal.invariant-loop-case
invariant-loop-case l = All (IsCaseEdge l.vertices) l.edges
