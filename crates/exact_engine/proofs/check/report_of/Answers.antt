use Rattle.std.proofs.Common.{sym, subst}
use Rattle.dd_nodes.specs.Stores.{Store}
use Rattle.engine_parts.specs.declared.results.Results.{Results}
use Rattle.exact_engine.specs.private.Reporting.{TellSets}
use Rattle.exact_engine.proofs.LeastCounters.{least_found}
use Rattle.exact_engine.proofs.WholeReports.{sets_of}
use Rattle.exact_engine.proofs.check.report_of.Goals as goal

pub least-requires : goal.least-requires
least-requires g c = record { held = c.requires.told.findings.counter_ref }

pub shown_of-requires : goal.shown_of-requires
shown_of-requires g c =
    let s : Store = g.N.Nodes.store c.args.nodes.now in
    let told = c.requires.told in
    least_found c.args.net.now.raw c.args.vars c.args.task.now s c.args.r.counter told.room told.counters c.in_ok-found.found c.in_ok-found.ensures.least

pub report_with-requires-clause-sets : goal.report_with-requires-clause-sets
report_with-requires-clause-sets g c =
    let net = c.args.net.now.raw in
    let s : Store = g.N.Nodes.store c.args.nodes.now in
    subst (λ (x : Store). TellSets net c.args.vars c.args.task.now x c.without_weak.result) (sym c.in_ok-found.ensures.store)
    (subst (λ (x : Results). TellSets net c.args.vars c.args.task.now s x) (sym c.without_weak.ensures) (sets_of net c.args.vars c.args.task.now s c.args.r (g.met.N.Nodes.diagram c.args.nodes.now) c.requires.told))
