use Rattle.std.proofs.Common.{◌≡◌, ◌≢◌, ◌+◌, ◌≤◌, length, sym, ◌∙◌, ap, subst, arith, Err}
use Rattle.std.proofs.lemmas.Result.{IfOk-weaker}
use Rattle.dd_nodes.specs.Functions.{IsCofactorOf}
use Rattle.dd_nodes.specs.Stores.{Builds, Keeps, Store}
use Rattle.net_core.specs.declared.raw.RawNet.{RawNet}
use Rattle.net_core.proofs.Ordered.{settled_by_order}
use Rattle.ste_model.specs.declared.report.Report.{Report}
use Rattle.ste_model.specs.declared.task.Assertion.{Assertion}
use Rattle.ste_model.specs.declared.verdict.Verdict.TheVariants.{Budget}
use Rattle.ste_model.specs.Report.{budget_report}
use Rattle.exact_model.specs.Choices.{choices}
use Rattle.exact_model.specs.Exact.{IsSoundFor}
use Rattle.exact_model.specs.ExactReport.{IsExactReportOf}
use Rattle.exact_model.specs.ExactWork.{exact_work}
use Rattle.exact_model.specs.Wider.{bits_over_more}
use Rattle.exact_model.proofs.ChoiceRuns.{exact_bits}
use Rattle.exact_engine.specs.Check.{IsExactBudget, IsExactlyKept}
use Rattle.exact_engine.specs.Results.{AreExactRefs}
use Rattle.exact_engine.specs.private.Reporting.{DoTell}
use Rattle.exact_engine.proofs.LeastCounters.{tells_counters}
use Rattle.exact_engine.proofs.WholeReports.{kept_of, never_budget}
use Rattle.exact_engine.proofs.check.check_exact.Goals as goal

pub report_of-requires : goal.report_of-requires
report_of-requires g c =
    let t : Store = g.N.Nodes.store c.exact_results.new.nodes in
    let full = c.args.net.now in
    let net : RawNet = full.raw in
    let vars = c.args.vars in
    let task : Assertion = c.args.task.now in
    let q = c.requires in
    let settled = settled_by_order net full.settled full.in_order in
    let sound : IsSoundFor net vars task = record { range = full.in_range; driver = full.one_driver; settled = settled; over = record { ant = q.ant; con = q.con }; reads_ant = q.reads_ant; reads_con = q.reads_con } in
    let made = exact_bits net vars task full.one_driver settled in
    let h = c.in-Ok.ensures in
    let room : vars + length (choices net task) ≤ t.vars = let r = q.room in let e = h.keeps.vars in omega (arith, r, e) in
    let tells : DoTell net vars task t c.in-Ok.r = record {
      room = room;
      findings = h.told;
      counters = tells_counters net vars task made.0 sound made.1 t c.in-Ok.r.counter room (h.built made.0 made.1).ok.counter;
    } in
    record { told = tells }

pub returns-in-Ok-clause-report : goal.returns-in-Ok-clause-report
returns-in-Ok-clause-report g c =
    let net : RawNet = c.args.net.now.raw in
    let task : Assertion = c.args.task.now in
    IfOk-weaker c.report_of.result (λ (report : Report). IsExactReportOf net c.args.vars c.args.cubes task report) (λ (report : Report). report.verdict ≢ Budget → IsExactReportOf net c.args.vars c.args.cubes task report)
    (λ report is some. is) c.report_of.ensures.report

pub returns-in-Ok-clause-budget : goal.returns-in-Ok-clause-budget
returns-in-Ok-clause-budget g c =
    let net : RawNet = c.args.net.now.raw in
    let vars = c.args.vars in
    let task : Assertion = c.args.task.now in
    let s : Store = g.N.Nodes.store c.args.nodes.now in
    let u : Store = g.N.Nodes.store c.report_of.new.nodes in
    IfOk-weaker c.report_of.result (λ (report : Report). IsExactReportOf net vars c.args.cubes task report) (λ (report : Report). report.verdict ≡ Budget → (report ≡ budget_report task.name) × IsExactBudget net vars task s u)
    (λ report is out. absurd (never_budget net vars c.args.cubes task report is out)) c.report_of.ensures.report

pub returns-in-Ok-clause-keeps : goal.returns-in-Ok-clause-keeps
returns-in-Ok-clause-keeps g c =
    let s : Store = g.N.Nodes.store c.args.nodes.now in
    subst (λ (x : Store). Keeps s x) (sym c.report_of.ensures.store) c.in-Ok.ensures.keeps

pub returns-in-Ok-clause-limit : goal.returns-in-Ok-clause-limit
returns-in-Ok-clause-limit g c = ap (λ (x : Store). x.limit) c.report_of.ensures.store ∙ c.in-Ok.ensures.limit

pub returns-in-Ok-clause-builds : goal.returns-in-Ok-clause-builds
returns-in-Ok-clause-builds g c =
    let net : RawNet = c.args.net.now.raw in
    let vars = c.args.vars in
    let task : Assertion = c.args.task.now in
    let s : Store = g.N.Nodes.store c.args.nodes.now in
    λ bit exact. subst (λ (x : Store). Builds (IsCofactorOf s.vars (exact_work net vars task (bits_over_more (vars + length (choices net task)) bit))) s x) (sym c.report_of.ensures.store) (c.in-Ok.ensures.built bit exact).spends.builds

pub returns-in-Ok-clause-kept : goal.returns-in-Ok-clause-kept
returns-in-Ok-clause-kept g c =
    let net : RawNet = c.args.net.now.raw in
    let vars = c.args.vars in
    let task : Assertion = c.args.task.now in
    let u : Store = g.N.Nodes.store c.report_of.new.nodes in
    let kept : IsExactlyKept net vars task u = λ bit exact f h.
    let wide = bits_over_more (vars + length (choices net task)) bit in
    let refs : AreExactRefs net vars task wide u c.in-Ok.r = subst (λ (x : Store). AreExactRefs net vars task wide x c.in-Ok.r) (sym c.report_of.ensures.store) (c.in-Ok.ensures.built bit exact).ok in
    kept_of net vars task wide u c.in-Ok.r.strong c.in-Ok.r.contradictory (g.met.N.Nodes.diagram c.report_of.new.nodes) refs.strong refs.contradictory f h in
    IfOk-weaker c.report_of.result (λ (report : Report). IsExactReportOf net vars c.args.cubes task report) (λ (report : Report). report.verdict ≢ Budget → IsExactlyKept net vars task u)
    (λ report is some. kept) c.report_of.ensures.report

pub returns-in-Err-StepsOut-clause-budget : goal.returns-in-Err-StepsOut-clause-budget
returns-in-Err-StepsOut-clause-budget g c =
    let full = c.args.net.now in
    let net : RawNet = full.raw in
    let vars = c.args.vars in
    let task : Assertion = c.args.task.now in
    let s : Store = g.N.Nodes.store c.args.nodes.now in
    let t : Store = g.N.Nodes.store c.exact_results.new.nodes in
    let made = exact_bits net vars task full.one_driver (settled_by_order net full.settled full.in_order) in
    let h = c.in-Err-StepsOut.ensures in
    let is = ap Err c.in-Err-StepsOut.field-0-is in
    let spent : IsExactBudget net vars task s t = record { spent = ((h.built made.0 made.1).spends.spent is).full; few = h.short is } in
    IfOk-weaker c.budget_report.result (λ (report : Report). report ≡ budget_report task.name) (λ (report : Report). report.verdict ≡ Budget → (report ≡ budget_report task.name) × IsExactBudget net vars task s t)
    (λ report is out. (is, spent)) c.budget_report.ensures

pub returns-in-Err-StepsOut-clause-builds : goal.returns-in-Err-StepsOut-clause-builds
returns-in-Err-StepsOut-clause-builds g c = λ bit exact. (c.in-Err-StepsOut.ensures.built bit exact).spends.builds

pub returns-in-Err-OutOfMemory-clause-builds : goal.returns-in-Err-OutOfMemory-clause-builds
returns-in-Err-OutOfMemory-clause-builds g c = λ bit exact. (c.in-Err-OutOfMemory.ensures.built bit exact).spends.builds
