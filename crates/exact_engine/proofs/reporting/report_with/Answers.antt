use Rattle.std.proofs.Common.{refl, ◌∙◌}
use Rattle.exact_engine.proofs.WholeReports.{whole_report}
use Rattle.exact_engine.proofs.reporting.report_with.Goals as goal

pub returns-clause-report : goal.returns-clause-report
returns-clause-report g c =
    whole_report c.args.net.now.raw c.args.vars c.args.task.now (g.N.Nodes.store c.args.nodes.now) c.args.sets (g.met.N.Nodes.diagram c.args.nodes.now) c.requires.sets
    c.args.max c.in_ok-guards.guards c.args.shown _ c.in_ok-guards.ensures.guards c.requires.shown
    (c.in_ok-name.ensures ∙ c.bytes.ensures) refl refl refl c.new.ensures refl refl
