use Rattle.std.proofs.Common.{All, subst, sym}
use Rattle.std.proofs.lemmas.List.Elements.{All-push}
use Rattle.gste_engine_tests.specs.Cases.{IsCaseEdge}
use Rattle.gste_engine_tests.proofs.cases.edges_of.Goals as goal

pub loop-case-preserved : goal.loop-case-preserved
loop-case-preserved c =
    subst (All (IsCaseEdge c.args.vertices)) (sym c.in_ok-push.ensures.ok)
    (All-push (IsCaseEdge c.args.vertices) c.loop-case.edges c.in_ok-edge_of.field-0 c.loop-case.invariant c.in_ok-edge_of.ensures)
