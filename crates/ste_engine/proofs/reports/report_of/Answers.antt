use Rattle.std.proofs.Common.{sym, ◌∙◌, subst}
use Rattle.dd_nodes.specs.Stores.{Store, function}
use Rattle.net_core.specs.declared.raw.RawNet.{RawNet}
use Rattle.ste_model.specs.declared.task.Assertion.{Assertion}
use Rattle.ste_model.specs.Found.{IsContradictory, IsStrong, IsVerdictOf, IsWeak}
use Rattle.engine_parts.specs.declared.results.Results.{Results}
use Rattle.engine_parts.proofs.Verdicts.{verdict_told}
use Rattle.ste_engine.specs.private.Firsts.{AreFirsts}
use Rattle.ste_engine.specs.private.Reports.{IsFailureOf}
use Rattle.ste_engine.proofs.reports.report_of.Goals as goal

pub shown_of-requires-clause-judged : goal.shown_of-requires-clause-judged
shown_of-requires-clause-judged g c =
    let net : RawNet = c.args.net.now.raw in
    let task : Assertion = c.args.task.now in
    let s : Store = g.N.Nodes.store c.args.nodes.now in
    let told = c.requires.told in
    subst (λ (x : Store). IsVerdictOf net x.vars task c.verdict_of-verdict.result) (sym c.in_ok-guards.ensures.store)
    (verdict_told s c.args.r (IsStrong net task) (IsWeak net task) (IsContradictory net task) told.strong told.weak told.contradictory c.verdict_of-verdict.result c.verdict_of-verdict.ensures)

pub shown_of-requires-clause-firsts : goal.shown_of-requires-clause-firsts
shown_of-requires-clause-firsts g c = subst (λ (x : Store). AreFirsts x.vars c.args.net.now.raw c.args.task.now c.args.firsts) (sym c.in_ok-guards.ensures.store) c.requires.firsts

pub returns-clause-report : goal.returns-clause-report
returns-clause-report g c =
    let net : RawNet = c.args.net.now.raw in
    let task : Assertion = c.args.task.now in
    let s : Store = g.N.Nodes.store c.args.nodes.now in
    let r : Results = c.args.r in
    let told = c.requires.told in
    let guards = c.in_ok-guards.ensures.guards in
    let shown = c.in_ok-shown.shown in
    let failure : IsFailureOf net s.vars task c.verdict_of-verdict.result shown.least shown.fails shown.run = subst (λ (x : Store). IsFailureOf net x.vars task c.verdict_of-verdict.result shown.least shown.fails shown.run) c.in_ok-guards.ensures.store c.in_ok-shown.ensures.shown in
    record {
      named = c.in_ok-name.ensures ∙ c.bytes.ensures;
      judged = verdict_told s r (IsStrong net task) (IsWeak net task) (IsContradictory net task) told.strong told.weak told.contradictory c.verdict_of-verdict.result c.verdict_of-verdict.ensures;
      strong = (function s r.strong, told.strong, guards.strong);
      weak = (function s r.weak, told.weak, guards.weak);
      contradictory = (function s r.contradictory, told.contradictory, guards.contradictory);
      shown = failure.shown;
      path = c.new.ensures;
      run = failure.run;
    }
