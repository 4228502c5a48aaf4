use Rattle.std.proofs.Common.{sym, ◌∙◌, ap, subst}
use Rattle.dd_nodes.specs.Stores.{Store, function}
use Rattle.net_core.specs.declared.raw.RawNet.{RawNet}
use Rattle.engine_parts.specs.declared.results.Results.{Results}
use Rattle.ste_model.specs.declared.task.Graph.{Graph}
use Rattle.ste_model.specs.GraphFound.{IsGraphContradictory, IsGraphStrong, IsGraphVerdict, IsGraphWeak}
use Rattle.gste_engine.specs.Tables.{AreConsequentsOver}
use Rattle.gste_engine.specs.private.Judged.{IsGraphFailureOf}
use Rattle.engine_parts.proofs.Verdicts.{verdict_told}
use Rattle.gste_engine.proofs.reports.report_of.Goals as goal

pub shown_of-requires-clause-con : goal.shown_of-requires-clause-con
shown_of-requires-clause-con g c =
    subst (λ v. AreConsequentsOver c.args.net.now.raw v c.args.graph.now) (sym (ap (λ (x : Store). x.vars) c.in_ok-guards.ensures.store)) c.requires.con

pub shown_of-requires-clause-judged : goal.shown_of-requires-clause-judged
shown_of-requires-clause-judged g c =
    let net : RawNet = c.args.net.now.raw in
    let graph : Graph = c.args.graph.now in
    let s : Store = g.N.Nodes.store c.args.nodes.now in
    let told = c.requires.told in
    subst (λ (x : Store). IsGraphVerdict net x.vars graph c.verdict_of-verdict.result) (sym c.in_ok-guards.ensures.store)
    (verdict_told s c.args.r (IsGraphStrong net graph) (IsGraphWeak net graph) (IsGraphContradictory net graph) told.strong told.weak told.contradictory c.verdict_of-verdict.result c.verdict_of-verdict.ensures)

pub returns-clause-report : goal.returns-clause-report
returns-clause-report g c =
    let net : RawNet = c.args.net.now.raw in
    let graph : Graph = c.args.graph.now in
    let s : Store = g.N.Nodes.store c.args.nodes.now in
    let r : Results = c.args.r in
    let told = c.requires.told in
    let guards = c.in_ok-guards.ensures.guards in
    let shown = c.in_ok-shown.shown in
    let failure : IsGraphFailureOf net s.vars graph c.verdict_of-verdict.result shown.least shown.path shown.fails shown.run =
    subst (λ (x : Store). IsGraphFailureOf net x.vars graph c.verdict_of-verdict.result shown.least shown.path shown.fails shown.run) c.in_ok-guards.ensures.store c.in_ok-shown.ensures.shown in
    record {
      named = c.in_ok-name.ensures ∙ c.bytes.ensures;
      judged = verdict_told s r (IsGraphStrong net graph) (IsGraphWeak net graph) (IsGraphContradictory net graph) told.strong told.weak told.contradictory c.verdict_of-verdict.result c.verdict_of-verdict.ensures;
      strong = (function s r.strong, told.strong, guards.strong);
      weak = (function s r.weak, told.weak, guards.weak);
      contradictory = (function s r.contradictory, told.contradictory, guards.contradictory);
      shown = failure.shown;
      run = failure.run;
    }
