use Rattle.std.proofs.Common.{◌≡◌, ◌≢◌, ◌+◌, length, sym, ap, subst, Err}
use Rattle.std.proofs.lemmas.Result.{IfOk-weaker}
use Rattle.dd_nodes.specs.Functions.{IsCofactorOf}
use Rattle.dd_nodes.specs.Stores.{Builds, Means, Store}
use Rattle.dd_growing.specs.Growing.{grown_store}
use Rattle.net_core.specs.declared.raw.RawNet.{RawNet}
use Rattle.net_core.proofs.Ordered.{settled_by_order}
use Rattle.ste_model.specs.declared.report.Report.{Report}
use Rattle.ste_model.specs.declared.task.Assertion.{Assertion}
use Rattle.ste_model.specs.declared.verdict.Verdict.TheVariants.{Budget}
use Rattle.ste_model.specs.Report.{budget_report}
use Rattle.engine_parts.specs.declared.results.Results.{Results}
use Rattle.exact_model.specs.Choices.{choices}
use Rattle.exact_model.specs.Exact.{IsSoundFor}
use Rattle.exact_model.specs.ExactReport.{IsExactReportOf}
use Rattle.exact_model.specs.ExactWork.{exact_work, exactly_contradictory_where, exactly_strong_where}
use Rattle.exact_model.specs.Wider.{bits_over_more}
use Rattle.exact_model.proofs.ChoiceRuns.{exact_bits}
use Rattle.exact_engine.specs.Check.{IsExactBudget, IsExactlyKept}
use Rattle.exact_engine.proofs.QuickSets.{contradictory_means, copies_built, strong_means}
use Rattle.exact_engine.proofs.Resulting.{short}
use Rattle.exact_engine.proofs.WholeReports.{kept_of}
use Rattle.exact_engine.proofs.with_scratch.quick_report.Goals as goal

pub returns-in-Ok-clause-builds : goal.returns-in-Ok-clause-builds
returns-in-Ok-clause-builds g c =
    let full = c.args.net.now in
    let net : RawNet = full.raw in
    let vars = c.args.vars in
    let task : Assertion = c.args.task.now in
    let q = c.requires in
    let s : Store = g.N.Nodes.store c.args.nodes.now in
    let t : Store = g.N.Nodes.store c.copied.new.nodes in
    let o : Store = grown_store c.args.scratch.now.nodes.items c.args.scratch.now.base c.args.scratch.now.limit c.args.scratch.now.vars in
    let r : Results = c.args.quick.sets in
    let settled = settled_by_order net full.settled full.in_order in
    let sound : IsSoundFor net vars task = record { range = full.in_range; driver = full.one_driver; settled = settled; over = record { ant = q.ant; con = q.con }; reads_ant = q.reads_ant; reads_con = q.reads_con } in
    λ bit exact. subst (λ (x : Store). Builds (IsCofactorOf s.vars (exact_work net vars task (bits_over_more (vars + length (choices net task)) bit))) s x) (sym c.report_with.ensures.store)
    (copies_built net vars task bit sound exact o s r q.width q.room q.quick.sets t _ c.in-Ok.ensures.built).spends.builds

pub returns-in-Err-StepsOut-clause-builds : goal.returns-in-Err-StepsOut-clause-builds
returns-in-Err-StepsOut-clause-builds g c =
    let full = c.args.net.now in
    let net : RawNet = full.raw in
    let vars = c.args.vars in
    let task : Assertion = c.args.task.now in
    let q = c.requires in
    let s : Store = g.N.Nodes.store c.args.nodes.now in
    let t : Store = g.N.Nodes.store c.copied.new.nodes in
    let o : Store = grown_store c.args.scratch.now.nodes.items c.args.scratch.now.base c.args.scratch.now.limit c.args.scratch.now.vars in
    let r : Results = c.args.quick.sets in
    let settled = settled_by_order net full.settled full.in_order in
    let sound : IsSoundFor net vars task = record { range = full.in_range; driver = full.one_driver; settled = settled; over = record { ant = q.ant; con = q.con }; reads_ant = q.reads_ant; reads_con = q.reads_con } in
    λ bit exact. (copies_built net vars task bit sound exact o s r q.width q.room q.quick.sets t _ c.in-Err-StepsOut.ensures.built).spends.builds

pub returns-clause-builds : goal.returns-clause-builds
returns-clause-builds g c =
    let full = c.args.net.now in
    let net : RawNet = full.raw in
    let vars = c.args.vars in
    let task : Assertion = c.args.task.now in
    let q = c.requires in
    let s : Store = g.N.Nodes.store c.args.nodes.now in
    let t : Store = g.N.Nodes.store c.copied.new.nodes in
    let o : Store = grown_store c.args.scratch.now.nodes.items c.args.scratch.now.base c.args.scratch.now.limit c.args.scratch.now.vars in
    let r : Results = c.args.quick.sets in
    let settled = settled_by_order net full.settled full.in_order in
    let sound : IsSoundFor net vars task = record { range = full.in_range; driver = full.one_driver; settled = settled; over = record { ant = q.ant; con = q.con }; reads_ant = q.reads_ant; reads_con = q.reads_con } in
    λ bit exact. (copies_built net vars task bit sound exact o s r q.width q.room q.quick.sets t _ c.in-Err-OutOfMemory.ensures.built).spends.builds

pub returns-in-Ok-clause-kept : goal.returns-in-Ok-clause-kept
returns-in-Ok-clause-kept g c =
    let full = c.args.net.now in
    let net : RawNet = full.raw in
    let vars = c.args.vars in
    let task : Assertion = c.args.task.now in
    let q = c.requires in
    let s : Store = g.N.Nodes.store c.args.nodes.now in
    let t : Store = g.N.Nodes.store c.copied.new.nodes in
    let o : Store = grown_store c.args.scratch.now.nodes.items c.args.scratch.now.base c.args.scratch.now.limit c.args.scratch.now.vars in
    let r : Results = c.args.quick.sets in
    let settled = settled_by_order net full.settled full.in_order in
    let sound : IsSoundFor net vars task = record { range = full.in_range; driver = full.one_driver; settled = settled; over = record { ant = q.ant; con = q.con }; reads_ant = q.reads_ant; reads_con = q.reads_con } in
    let u : Store = g.N.Nodes.store c.report_with.new.nodes in
    let b = c.in-Ok.ensures.built in
    let stays : t.vars ≡ s.vars = b.spends.keeps.vars in
    let kept : IsExactlyKept net vars task u = λ bit exact f h.
    let wide = bits_over_more (vars + length (choices net task)) bit in
    let strong : Means u (exactly_strong_where net vars task wide) c.in-Ok.sets.strong = subst (λ (x : Store). Means x (exactly_strong_where net vars task wide) c.in-Ok.sets.strong) (sym c.report_with.ensures.store)
    (strong_means net vars task bit sound exact o s r q.width q.room q.quick.sets t c.in-Ok.sets stays b.ok) in
    let contradictory : Means u (exactly_contradictory_where net vars task wide) c.in-Ok.sets.contradictory = subst (λ (x : Store). Means x (exactly_contradictory_where net vars task wide) c.in-Ok.sets.contradictory) (sym c.report_with.ensures.store)
    (contradictory_means net vars task bit sound exact o s r q.width q.room q.quick.sets t c.in-Ok.sets stays b.ok) in
    kept_of net vars task wide u c.in-Ok.sets.strong c.in-Ok.sets.contradictory (g.met.N.Nodes.diagram c.report_with.new.nodes) strong contradictory f h in
    IfOk-weaker c.report_with.result (λ (report : Report). IsExactReportOf net vars c.args.cubes task report) (λ (report : Report). report.verdict ≢ Budget → IsExactlyKept net vars task u)
    (λ report is some. kept) c.report_with.ensures.report

pub returns-in-Err-StepsOut-clause-budget : goal.returns-in-Err-StepsOut-clause-budget
returns-in-Err-StepsOut-clause-budget g c =
    let full = c.args.net.now in
    let net : RawNet = full.raw in
    let vars = c.args.vars in
    let task : Assertion = c.args.task.now in
    let q = c.requires in
    let s : Store = g.N.Nodes.store c.args.nodes.now in
    let t : Store = g.N.Nodes.store c.copied.new.nodes in
    let o : Store = grown_store c.args.scratch.now.nodes.items c.args.scratch.now.base c.args.scratch.now.limit c.args.scratch.now.vars in
    let r : Results = c.args.quick.sets in
    let settled = settled_by_order net full.settled full.in_order in
    let sound : IsSoundFor net vars task = record { range = full.in_range; driver = full.one_driver; settled = settled; over = record { ant = q.ant; con = q.con }; reads_ant = q.reads_ant; reads_con = q.reads_con } in
    let made = exact_bits net vars task full.one_driver settled in
    let is = ap Err c.in-Err-StepsOut.field-0-is in
    let b = copies_built net vars task made.0 sound made.1 o s r q.width q.room q.quick.sets t _ c.in-Err-StepsOut.ensures.built in
    let spent : IsExactBudget net vars task s t = record {
      spent = (b.spends.spent is).full;
      few = short net vars task made.0 sound made.1 s t _ q.room (g.met.N.Nodes.diagram c.copied.new.nodes) (g.met.N.Nodes.distinct c.copied.new.nodes) (g.met.N.Nodes.made_held c.copied.new.nodes) b.spends is;
    } in
    IfOk-weaker c.budget_report.result (λ (report : Report). report ≡ budget_report task.name) (λ (report : Report). report.verdict ≡ Budget → (report ≡ budget_report task.name) × IsExactBudget net vars task s t)
    (λ report is out. (is, spent)) c.budget_report.ensures
