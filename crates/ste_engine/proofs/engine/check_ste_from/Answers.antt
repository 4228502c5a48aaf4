use Rattle.std.proofs.Common.{◌≡◌, ◌≢◌, sym, ◌∙◌, ap, subst, Err, IfSome, None, Option, Some}
use Rattle.std.proofs.lemmas.Result.{IfOk-weaker}
use Rattle.dd_nodes.specs.Stores.{Store}
use Rattle.dd_nodes.proofs.Spending.{Spends-out}
use Rattle.dd_nodes.proofs.Stores.{Keeps-trans, Means-keeps}
use Rattle.net_core.specs.declared.raw.RawNet.{RawNet}
use Rattle.net_core.specs.Run.{IsSettled}
use Rattle.net_core.proofs.Ordered.{settled_by_order}
use Rattle.ste_model.specs.declared.report.Report.{Report}
use Rattle.ste_model.specs.declared.task.Assertion.{Assertion}
use Rattle.ste_model.specs.declared.verdict.Verdict.TheVariants.{Budget}
use Rattle.ste_model.specs.Need.{IsWholeTable}
use Rattle.ste_model.specs.Report.{IsReportOf, budget_report}
use Rattle.ste_model.specs.Work.{task_work}
use Rattle.ste_model.proofs.Needs.{whole_exists}
use Rattle.sym_step.specs.declared.frame.Frame.{Frame}
use Rattle.sym_step.specs.Frame.{IsFrame}
use Rattle.sym_step.proofs.Framing.{frame_keeps}
use Rattle.ste_engine.specs.Engine.{IsBudget, IsKept}
use Rattle.ste_engine.specs.private.Firsts.{AreFirsts}
use Rattle.engine_parts.proofs.Cofactors.{held_cofactor}
use Rattle.engine_parts.proofs.Nothing.{spends_same}
use Rattle.ste_engine.proofs.Shows.{results_tell}
use Rattle.ste_engine.proofs.Short.{short}
use Rattle.ste_engine.proofs.engine.check_ste_from.Goals as goal

last_keeps : (P Q : Frame → Type 0) → ((frame : Frame) → P frame → Q frame) → (last : Option Frame) → IfSome last P → IfSome last Q
last_keeps P Q give None h = tt
last_keeps P Q give (Some frame) h = give frame h

pub report_of-requires-clause-told : goal.report_of-requires-clause-told
report_of-requires-clause-told g c =
    let net : RawNet = c.args.net.now.raw in
    let task : Assertion = c.args.task.now in
    let s : Store = g.N.Nodes.store c.args.nodes.now in
    let t : Store = g.N.Nodes.store c.results_from.new.nodes in
    let settled : IsSettled net = settled_by_order net c.args.net.now.settled c.args.net.now.in_order in
    let w = whole_exists net s.vars task settled in
    let b = c.in-Ok.ensures.built w.0 w.1 in
    results_tell net task w.0 t c.in-Ok.r settled (subst (λ v. IsWholeTable net v task w.0) (sym b.spends.keeps.vars) w.1) b.ok

pub report_of-requires-clause-firsts : goal.report_of-requires-clause-firsts
report_of-requires-clause-firsts g c =
    let net : RawNet = c.args.net.now.raw in
    let task : Assertion = c.args.task.now in
    let settled : IsSettled net = settled_by_order net c.args.net.now.settled c.args.net.now.in_order in
    let w = whole_exists net (g.N.Nodes.store c.args.nodes.now).vars task settled in
    subst (λ v. AreFirsts v net task c.results_from.new.firsts) (sym (c.in-Ok.ensures.built w.0 w.1).spends.keeps.vars) c.in-Ok.ensures.firsts

pub returns-in-Ok-clause-keeps : goal.returns-in-Ok-clause-keeps
returns-in-Ok-clause-keeps g c =
    let net : RawNet = c.args.net.now.raw in
    let task : Assertion = c.args.task.now in
    let s : Store = g.N.Nodes.store c.args.nodes.now in
    let t : Store = g.N.Nodes.store c.results_from.new.nodes in
    let settled : IsSettled net = settled_by_order net c.args.net.now.settled c.args.net.now.in_order in
    let w = whole_exists net s.vars task settled in
    let b = c.in-Ok.ensures.built w.0 w.1 in
    let u : Store = g.N.Nodes.store c.report_of.new.nodes in
    let same = c.report_of.ensures.same in
    Keeps-trans s t u b.spends.keeps same.keeps

pub returns-in-Ok-clause-limit : goal.returns-in-Ok-clause-limit
returns-in-Ok-clause-limit g c =
    let net : RawNet = c.args.net.now.raw in
    let task : Assertion = c.args.task.now in
    let s : Store = g.N.Nodes.store c.args.nodes.now in
    let t : Store = g.N.Nodes.store c.results_from.new.nodes in
    let settled : IsSettled net = settled_by_order net c.args.net.now.settled c.args.net.now.in_order in
    let w = whole_exists net s.vars task settled in
    let b = c.in-Ok.ensures.built w.0 w.1 in
    let u : Store = g.N.Nodes.store c.report_of.new.nodes in
    let same = c.report_of.ensures.same in
    same.limit ∙ b.spends.limit

pub returns-in-Err-StepsOut-clause-keeps : goal.returns-in-Err-StepsOut-clause-keeps
returns-in-Err-StepsOut-clause-keeps g c =
    let net : RawNet = c.args.net.now.raw in
    let task : Assertion = c.args.task.now in
    let s : Store = g.N.Nodes.store c.args.nodes.now in
    let t : Store = g.N.Nodes.store c.results_from.new.nodes in
    let settled : IsSettled net = settled_by_order net c.args.net.now.settled c.args.net.now.in_order in
    let w = whole_exists net s.vars task settled in
    (c.in-Err-StepsOut.ensures.built w.0 w.1).spends.keeps

pub returns-in-Err-StepsOut-clause-limit : goal.returns-in-Err-StepsOut-clause-limit
returns-in-Err-StepsOut-clause-limit g c =
    let net : RawNet = c.args.net.now.raw in
    let task : Assertion = c.args.task.now in
    let s : Store = g.N.Nodes.store c.args.nodes.now in
    let t : Store = g.N.Nodes.store c.results_from.new.nodes in
    let settled : IsSettled net = settled_by_order net c.args.net.now.settled c.args.net.now.in_order in
    let w = whole_exists net s.vars task settled in
    (c.in-Err-StepsOut.ensures.built w.0 w.1).spends.limit

pub returns-in-Err-OutOfMemory-clause-keeps : goal.returns-in-Err-OutOfMemory-clause-keeps
returns-in-Err-OutOfMemory-clause-keeps g c =
    let net : RawNet = c.args.net.now.raw in
    let task : Assertion = c.args.task.now in
    let s : Store = g.N.Nodes.store c.args.nodes.now in
    let t : Store = g.N.Nodes.store c.results_from.new.nodes in
    let settled : IsSettled net = settled_by_order net c.args.net.now.settled c.args.net.now.in_order in
    let w = whole_exists net s.vars task settled in
    (c.in-Err-OutOfMemory.ensures.built w.0 w.1).spends.keeps

pub returns-in-Err-OutOfMemory-clause-limit : goal.returns-in-Err-OutOfMemory-clause-limit
returns-in-Err-OutOfMemory-clause-limit g c =
    let net : RawNet = c.args.net.now.raw in
    let task : Assertion = c.args.task.now in
    let s : Store = g.N.Nodes.store c.args.nodes.now in
    let t : Store = g.N.Nodes.store c.results_from.new.nodes in
    let settled : IsSettled net = settled_by_order net c.args.net.now.settled c.args.net.now.in_order in
    let w = whole_exists net s.vars task settled in
    (c.in-Err-OutOfMemory.ensures.built w.0 w.1).spends.limit

pub returns-in-Ok-clause-report : goal.returns-in-Ok-clause-report
returns-in-Ok-clause-report g c =
    let net : RawNet = c.args.net.now.raw in
    let task : Assertion = c.args.task.now in
    let s : Store = g.N.Nodes.store c.args.nodes.now in
    let t : Store = g.N.Nodes.store c.results_from.new.nodes in
    let settled : IsSettled net = settled_by_order net c.args.net.now.settled c.args.net.now.in_order in
    let w = whole_exists net s.vars task settled in
    let b = c.in-Ok.ensures.built w.0 w.1 in
    let u : Store = g.N.Nodes.store c.report_of.new.nodes in
    let same = c.report_of.ensures.same in
    IfOk-weaker c.report_of.result (λ (report : Report). IsReportOf net t.vars c.args.cubes task report) (λ (report : Report). report.verdict ≢ Budget → IsReportOf net s.vars c.args.cubes task report)
    (λ report is some. subst (λ v. IsReportOf net v c.args.cubes task report) b.spends.keeps.vars is) c.report_of.ensures.report

pub returns-in-Ok-clause-builds : goal.returns-in-Ok-clause-builds
returns-in-Ok-clause-builds g c =
    let net : RawNet = c.args.net.now.raw in
    let task : Assertion = c.args.task.now in
    let s : Store = g.N.Nodes.store c.args.nodes.now in
    let t : Store = g.N.Nodes.store c.results_from.new.nodes in
    let u : Store = g.N.Nodes.store c.report_of.new.nodes in
    let same = c.report_of.ensures.same in
    λ table whole. (spends_same (task_work net task table) s t u _ (g.met.N.Nodes.diagram c.results_from.new.nodes) (g.met.N.Nodes.diagram c.report_of.new.nodes) (c.in-Ok.ensures.built table whole).spends same).builds

pub returns-in-Ok-clause-kept : goal.returns-in-Ok-clause-kept
returns-in-Ok-clause-kept g c =
    let net : RawNet = c.args.net.now.raw in
    let task : Assertion = c.args.task.now in
    let s : Store = g.N.Nodes.store c.args.nodes.now in
    let t : Store = g.N.Nodes.store c.results_from.new.nodes in
    let settled : IsSettled net = settled_by_order net c.args.net.now.settled c.args.net.now.in_order in
    let w = whole_exists net s.vars task settled in
    let b = c.in-Ok.ensures.built w.0 w.1 in
    let u : Store = g.N.Nodes.store c.report_of.new.nodes in
    let same = c.report_of.ensures.same in
    let gt = g.met.N.Nodes.diagram c.results_from.new.nodes in
    let gu = g.met.N.Nodes.diagram c.report_of.new.nodes in
    let vars : u.vars ≡ s.vars = same.keeps.vars ∙ b.spends.keeps.vars in
    let kept : IsKept net task u = λ table whole f (k, has, cofactor).
    let x = (c.in-Ok.ensures.built table (subst (λ v. IsWholeTable net v task table) vars whole)).ok.kept k has in
    held_cofactor u k f x.0 gu (Means-keeps t u k x.0 gt gu same.keeps x.1) cofactor in
    IfOk-weaker c.report_of.result (λ (report : Report). IsReportOf net t.vars c.args.cubes task report) (λ (report : Report). report.verdict ≢ Budget → IsKept net task u) (λ report is some. kept) c.report_of.ensures.report

pub returns-in-Err-StepsOut-clause-budget : goal.returns-in-Err-StepsOut-clause-budget
returns-in-Err-StepsOut-clause-budget g c =
    let net : RawNet = c.args.net.now.raw in
    let task : Assertion = c.args.task.now in
    let s : Store = g.N.Nodes.store c.args.nodes.now in
    let t : Store = g.N.Nodes.store c.results_from.new.nodes in
    let settled : IsSettled net = settled_by_order net c.args.net.now.settled c.args.net.now.in_order in
    let w = whole_exists net s.vars task settled in
    let b = c.in-Err-StepsOut.ensures.built w.0 w.1 in
    let h = c.in-Err-StepsOut.ensures.built in
    let is = ap Err c.in-Err-StepsOut.field-0-is in
    let spent : IsBudget net task s t = record {
      spent = (b.spends.spent is).full;
      few = short net task s t (g.met.N.Nodes.diagram c.results_from.new.nodes) (g.met.N.Nodes.distinct c.results_from.new.nodes) (g.met.N.Nodes.made_held c.results_from.new.nodes)
          (λ table whole. Spends-out (task_work net task table) s t _ (Unit {0}) (λ u. is) (h table whole).spends);
    } in
    IfOk-weaker c.budget_report.result (λ (report : Report). report ≡ budget_report task.name) (λ (report : Report). report.verdict ≡ Budget → (report ≡ budget_report task.name) × IsBudget net task s t) (λ report is out. (is, spent)) c.budget_report.ensures

pub returns-in-Ok-clause-last : goal.returns-in-Ok-clause-last
returns-in-Ok-clause-last g c =
    let net = c.args.net.now in
    let t : Store = g.N.Nodes.store c.results_from.new.nodes in
    let u : Store = g.N.Nodes.store c.report_of.new.nodes in
    last_keeps (IsFrame t net.raw) (IsFrame u net.raw)
    (λ frame. frame_keeps t u net.raw frame net.in_range (g.met.N.Nodes.diagram c.results_from.new.nodes) (g.met.N.Nodes.diagram c.report_of.new.nodes) c.report_of.ensures.same.keeps)
    c.results_from.new.last c.in-Ok.ensures.last
