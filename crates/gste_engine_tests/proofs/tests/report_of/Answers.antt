use Rattle.std.proofs.Common.{ap, subst, sym}
use Rattle.dd_nodes.specs.Stores.{Store}
use Rattle.gste_engine.specs.Tables.{AreConsequentsOver}
use Rattle.gste_engine_tests.proofs.tests.report_of.Goals as goal

pub check_graph-requires-clause-consequents : goal.check_graph-requires-clause-consequents
check_graph-requires-clause-consequents c =
    subst (λ v. AreConsequentsOver c.args.ready.now.net.raw v c.args.graph.now) (sym (ap (λ (s : Store). s.vars) c.in_ok-nodes.ensures)) c.requires.graph.claims_over
