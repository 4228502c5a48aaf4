use Rattle.std.proofs.Common.{All, subst, sym, arith}
use Rattle.gste_engine_tests.specs.Cases.{IsCaseEdge}
use Rattle.gste_engine_tests.proofs.Casing.{a_case}
use Rattle.gste_engine_tests.proofs.cases.graph_of.Goals as goal

pub returns : goal.returns
returns c =
    a_case c.args.ready.now.net.raw _ c.args.ready.now.nets (omega (arith, c.in_ok-names.ensures, c.if-vertices-eq0.false))
    (subst (λ n. All (IsCaseEdge n) c.in_ok-edges.edges) (sym c.in_ok-names.ensures) c.in_ok-edges.ensures)
