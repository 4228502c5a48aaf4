use Rattle.std.proofs.Common.{◌≡◌, ◌≢◌, List, length, Contains, sym, ◌∙◌, ap, subst, Err}
use Rattle.std.proofs.lemmas.Result.{IfOk-weaker}
use Rattle.dd_nodes.specs.Stores.{Store}
use Rattle.dd_nodes.proofs.Spending.{Spends-out}
use Rattle.dd_nodes.proofs.Stores.{Keeps-trans, Means-keeps}
use Rattle.net_core.specs.declared.raw.RawNet.{RawNet}
use Rattle.net_core.specs.Run.{IsSettled}
use Rattle.net_core.proofs.Ordered.{settled_by_order}
use Rattle.ste_model.specs.declared.report.Report.{Report}
use Rattle.ste_model.specs.declared.task.Graph.{Graph}
use Rattle.ste_model.specs.declared.verdict.Verdict.TheVariants.{Budget}
use Rattle.ste_model.specs.GraphNeed.{AreWholeRounds, graph_kept_functions}
use Rattle.ste_model.specs.GraphReport.{IsGraphReportOf}
use Rattle.ste_model.specs.GraphTable.{enough}
use Rattle.ste_model.specs.GraphWork.{graph_work}
use Rattle.ste_model.specs.Report.{budget_report}
use Rattle.ste_model.proofs.GraphNeeds.{one_graph_need}
use Rattle.engine_parts.proofs.Cofactors.{held_cofactor}
use Rattle.engine_parts.proofs.Nothing.{spends_same}
use Rattle.gste_engine.specs.Engine.{IsGraphBudget, IsGraphKept}
use Rattle.gste_engine.specs.declared.state.State.{State}
use Rattle.gste_engine.specs.Tables.{AreConsequentsOver, HasStates, IsGraphOver}
use Rattle.gste_engine.proofs.Reporting.{graph_results_tell, graph_short}
use Rattle.gste_engine.proofs.engine.check_graph.Goals as goal

pub report_of-requires-clause-graph : goal.report_of-requires-clause-graph
report_of-requires-clause-graph g c =
    let net : RawNet = c.args.net.now.raw in
    let graph : Graph = c.args.graph.now in
    let s : Store = g.N.Nodes.store c.args.nodes.now in
    let t : Store = g.N.Nodes.store c.judge.new.nodes in
    let settled : IsSettled net = settled_by_order net c.args.net.now.settled c.args.net.now.in_order in
    let w = (one_graph_need.some net s.vars graph settled).1 in
    let b = c.in-Ok.ensures w.0 w.1 w.2 in
    subst (λ v. IsGraphOver net v graph) (sym b.spends.keeps.vars) c.requires.graph

pub report_of-requires-clause-con : goal.report_of-requires-clause-con
report_of-requires-clause-con g c =
    let net : RawNet = c.args.net.now.raw in
    let graph : Graph = c.args.graph.now in
    let s : Store = g.N.Nodes.store c.args.nodes.now in
    let t : Store = g.N.Nodes.store c.judge.new.nodes in
    let settled : IsSettled net = settled_by_order net c.args.net.now.settled c.args.net.now.in_order in
    let w = (one_graph_need.some net s.vars graph settled).1 in
    let b = c.in-Ok.ensures w.0 w.1 w.2 in
    subst (λ v. AreConsequentsOver net v graph) (sym b.spends.keeps.vars) c.requires.consequents

pub report_of-requires-clause-table : goal.report_of-requires-clause-table
report_of-requires-clause-table g c =
    let net : RawNet = c.args.net.now.raw in
    let graph : Graph = c.args.graph.now in
    let s : Store = g.N.Nodes.store c.args.nodes.now in
    let t : Store = g.N.Nodes.store c.judge.new.nodes in
    let settled : IsSettled net = settled_by_order net c.args.net.now.settled c.args.net.now.in_order in
    let w = (one_graph_need.some net s.vars graph settled).1 in
    let b = c.in-Ok.ensures w.0 w.1 w.2 in
    record { tables = w.0; sets = w.1; whole = subst (λ v. AreWholeRounds net v graph w.0 w.1) (sym b.spends.keeps.vars) w.2; has = subst (λ (states : List State). HasStates (w.0 (enough net graph)) (length graph.vertices) t states) (sym c.as_slice.ensures) b.ok.states }

pub report_of-requires-clause-told : goal.report_of-requires-clause-told
report_of-requires-clause-told g c =
    let net : RawNet = c.args.net.now.raw in
    let graph : Graph = c.args.graph.now in
    let s : Store = g.N.Nodes.store c.args.nodes.now in
    let t : Store = g.N.Nodes.store c.judge.new.nodes in
    let settled : IsSettled net = settled_by_order net c.args.net.now.settled c.args.net.now.in_order in
    let w = (one_graph_need.some net s.vars graph settled).1 in
    let b = c.in-Ok.ensures w.0 w.1 w.2 in
    graph_results_tell net graph w.0 w.1 t c.in-Ok.judged.table c.in-Ok.judged.results settled c.requires.graph.sound (subst (λ v. AreWholeRounds net v graph w.0 w.1) (sym b.spends.keeps.vars) w.2) b.ok

pub returns-in-Ok-clause-keeps : goal.returns-in-Ok-clause-keeps
returns-in-Ok-clause-keeps g c =
    let net : RawNet = c.args.net.now.raw in
    let graph : Graph = c.args.graph.now in
    let s : Store = g.N.Nodes.store c.args.nodes.now in
    let t : Store = g.N.Nodes.store c.judge.new.nodes in
    let settled : IsSettled net = settled_by_order net c.args.net.now.settled c.args.net.now.in_order in
    let w = (one_graph_need.some net s.vars graph settled).1 in
    let b = c.in-Ok.ensures w.0 w.1 w.2 in
    let u : Store = g.N.Nodes.store c.report_of.new.nodes in
    let same = c.report_of.ensures.same in
    Keeps-trans s t u b.spends.keeps same.keeps

pub returns-in-Ok-clause-limit : goal.returns-in-Ok-clause-limit
returns-in-Ok-clause-limit g c =
    let net : RawNet = c.args.net.now.raw in
    let graph : Graph = c.args.graph.now in
    let s : Store = g.N.Nodes.store c.args.nodes.now in
    let t : Store = g.N.Nodes.store c.judge.new.nodes in
    let settled : IsSettled net = settled_by_order net c.args.net.now.settled c.args.net.now.in_order in
    let w = (one_graph_need.some net s.vars graph settled).1 in
    let b = c.in-Ok.ensures w.0 w.1 w.2 in
    let u : Store = g.N.Nodes.store c.report_of.new.nodes in
    let same = c.report_of.ensures.same in
    same.limit ∙ b.spends.limit

pub returns-in-Err-StepsOut-clause-keeps : goal.returns-in-Err-StepsOut-clause-keeps
returns-in-Err-StepsOut-clause-keeps g c =
    let net : RawNet = c.args.net.now.raw in
    let graph : Graph = c.args.graph.now in
    let s : Store = g.N.Nodes.store c.args.nodes.now in
    let t : Store = g.N.Nodes.store c.judge.new.nodes in
    let settled : IsSettled net = settled_by_order net c.args.net.now.settled c.args.net.now.in_order in
    let w = (one_graph_need.some net s.vars graph settled).1 in
    (c.in-Err-StepsOut.ensures w.0 w.1 w.2).spends.keeps

pub returns-in-Err-StepsOut-clause-limit : goal.returns-in-Err-StepsOut-clause-limit
returns-in-Err-StepsOut-clause-limit g c =
    let net : RawNet = c.args.net.now.raw in
    let graph : Graph = c.args.graph.now in
    let s : Store = g.N.Nodes.store c.args.nodes.now in
    let t : Store = g.N.Nodes.store c.judge.new.nodes in
    let settled : IsSettled net = settled_by_order net c.args.net.now.settled c.args.net.now.in_order in
    let w = (one_graph_need.some net s.vars graph settled).1 in
    (c.in-Err-StepsOut.ensures w.0 w.1 w.2).spends.limit

pub returns-in-Err-OutOfMemory-clause-keeps : goal.returns-in-Err-OutOfMemory-clause-keeps
returns-in-Err-OutOfMemory-clause-keeps g c =
    let net : RawNet = c.args.net.now.raw in
    let graph : Graph = c.args.graph.now in
    let s : Store = g.N.Nodes.store c.args.nodes.now in
    let t : Store = g.N.Nodes.store c.judge.new.nodes in
    let settled : IsSettled net = settled_by_order net c.args.net.now.settled c.args.net.now.in_order in
    let w = (one_graph_need.some net s.vars graph settled).1 in
    (c.in-Err-OutOfMemory.ensures w.0 w.1 w.2).spends.keeps

pub returns-in-Err-OutOfMemory-clause-limit : goal.returns-in-Err-OutOfMemory-clause-limit
returns-in-Err-OutOfMemory-clause-limit g c =
    let net : RawNet = c.args.net.now.raw in
    let graph : Graph = c.args.graph.now in
    let s : Store = g.N.Nodes.store c.args.nodes.now in
    let t : Store = g.N.Nodes.store c.judge.new.nodes in
    let settled : IsSettled net = settled_by_order net c.args.net.now.settled c.args.net.now.in_order in
    let w = (one_graph_need.some net s.vars graph settled).1 in
    (c.in-Err-OutOfMemory.ensures w.0 w.1 w.2).spends.limit

pub returns-in-Ok-clause-report : goal.returns-in-Ok-clause-report
returns-in-Ok-clause-report g c =
    let net : RawNet = c.args.net.now.raw in
    let graph : Graph = c.args.graph.now in
    let s : Store = g.N.Nodes.store c.args.nodes.now in
    let t : Store = g.N.Nodes.store c.judge.new.nodes in
    let settled : IsSettled net = settled_by_order net c.args.net.now.settled c.args.net.now.in_order in
    let w = (one_graph_need.some net s.vars graph settled).1 in
    let b = c.in-Ok.ensures w.0 w.1 w.2 in
    let u : Store = g.N.Nodes.store c.report_of.new.nodes in
    let same = c.report_of.ensures.same in
    IfOk-weaker c.report_of.result (λ (report : Report). IsGraphReportOf net t.vars c.args.cubes graph report) (λ (report : Report). report.verdict ≢ Budget → IsGraphReportOf net s.vars c.args.cubes graph report)
    (λ report is some. subst (λ v. IsGraphReportOf net v c.args.cubes graph report) b.spends.keeps.vars is) c.report_of.ensures.report

pub returns-in-Ok-clause-builds : goal.returns-in-Ok-clause-builds
returns-in-Ok-clause-builds g c =
    let net : RawNet = c.args.net.now.raw in
    let graph : Graph = c.args.graph.now in
    let s : Store = g.N.Nodes.store c.args.nodes.now in
    let t : Store = g.N.Nodes.store c.judge.new.nodes in
    let u : Store = g.N.Nodes.store c.report_of.new.nodes in
    let same = c.report_of.ensures.same in
    λ tables sets whole. (spends_same (graph_work net graph tables sets) s t u _ (g.met.N.Nodes.diagram c.judge.new.nodes) (g.met.N.Nodes.diagram c.report_of.new.nodes) (c.in-Ok.ensures tables sets whole).spends same).builds

pub returns-in-Ok-clause-kept : goal.returns-in-Ok-clause-kept
returns-in-Ok-clause-kept g c =
    let net : RawNet = c.args.net.now.raw in
    let graph : Graph = c.args.graph.now in
    let s : Store = g.N.Nodes.store c.args.nodes.now in
    let t : Store = g.N.Nodes.store c.judge.new.nodes in
    let settled : IsSettled net = settled_by_order net c.args.net.now.settled c.args.net.now.in_order in
    let w = (one_graph_need.some net s.vars graph settled).1 in
    let b = c.in-Ok.ensures w.0 w.1 w.2 in
    let u : Store = g.N.Nodes.store c.report_of.new.nodes in
    let same = c.report_of.ensures.same in
    let gt = g.met.N.Nodes.diagram c.judge.new.nodes in
    let gu = g.met.N.Nodes.diagram c.report_of.new.nodes in
    let vars : u.vars ≡ s.vars = same.keeps.vars ∙ b.spends.keeps.vars in
    let kept : IsGraphKept net graph u = λ tables sets whole f (k, has, cofactor).
    let x = (c.in-Ok.ensures tables sets (subst (λ v. AreWholeRounds net v graph tables sets) vars whole)).ok.kept k (subst (λ v. Contains (graph_kept_functions net v graph (tables (enough net graph)) (sets (enough net graph))) k) same.keeps.vars has) in
    held_cofactor u k f x.0 gu (Means-keeps t u k x.0 gt gu same.keeps x.1) cofactor in
    IfOk-weaker c.report_of.result (λ (report : Report). IsGraphReportOf net t.vars c.args.cubes graph report) (λ (report : Report). report.verdict ≢ Budget → IsGraphKept net graph u) (λ report is some. kept) c.report_of.ensures.report

pub returns-in-Err-StepsOut-clause-budget : goal.returns-in-Err-StepsOut-clause-budget
returns-in-Err-StepsOut-clause-budget g c =
    let net : RawNet = c.args.net.now.raw in
    let graph : Graph = c.args.graph.now in
    let s : Store = g.N.Nodes.store c.args.nodes.now in
    let t : Store = g.N.Nodes.store c.judge.new.nodes in
    let settled : IsSettled net = settled_by_order net c.args.net.now.settled c.args.net.now.in_order in
    let w = (one_graph_need.some net s.vars graph settled).1 in
    let b = c.in-Err-StepsOut.ensures w.0 w.1 w.2 in
    let h = c.in-Err-StepsOut.ensures in
    let is = ap Err c.in-Err-StepsOut.field-0-is in
    let spent : IsGraphBudget net graph s t = record {
      spent = (b.spends.spent is).full;
      few = graph_short net graph s t (g.met.N.Nodes.diagram c.judge.new.nodes) (g.met.N.Nodes.distinct c.judge.new.nodes) (g.met.N.Nodes.made_held c.judge.new.nodes)
          (λ tables sets whole. Spends-out (graph_work net graph tables sets) s t _ (Unit {0}) (λ u. is) (h tables sets whole).spends);
    } in
    IfOk-weaker c.budget_report.result (λ (report : Report). report ≡ budget_report graph.name) (λ (report : Report). report.verdict ≡ Budget → (report ≡ budget_report graph.name) × IsGraphBudget net graph s t) (λ report is out. (is, spent)) c.budget_report.ensures
