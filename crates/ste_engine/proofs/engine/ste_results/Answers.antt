use Rattle.std.proofs.Common.{sym, subst}
use Rattle.std.proofs.lemmas.Result.{IfOk-weaker}
use Rattle.dd_nodes.specs.Stores.{Store}
use Rattle.dd_nodes.proofs.Spending.{Spends-out}
use Rattle.net_core.specs.declared.raw.RawNet.{RawNet}
use Rattle.net_core.specs.Run.{IsSettled}
use Rattle.net_core.proofs.Ordered.{settled_by_order}
use Rattle.ste_model.specs.declared.task.Assertion.{Assertion}
use Rattle.ste_model.specs.Need.{IsWholeTable}
use Rattle.ste_model.specs.Work.{task_work}
use Rattle.ste_model.proofs.Needs.{whole_exists}
use Rattle.engine_parts.specs.declared.results.Results.{Results}
use Rattle.ste_engine.specs.Findings.{TellFindings}
use Rattle.ste_engine.specs.private.Turns.{AreResults}
use Rattle.ste_engine.proofs.Shows.{results_tell}
use Rattle.ste_engine.proofs.Short.{short}
use Rattle.ste_engine.proofs.engine.ste_results.Goals as goal

pub returns-clause-told : goal.returns-clause-told
returns-clause-told g c =
    let net : RawNet = c.args.net.now.raw in
    let task : Assertion = c.args.task.now in
    let s : Store = g.N.Nodes.store c.args.nodes.now in
    let t : Store = g.N.Nodes.store c.results_from.new.nodes in
    let settled : IsSettled net = settled_by_order net c.args.net.now.settled c.args.net.now.in_order in
    let w = whole_exists net s.vars task settled in
    let b = c.results_from.ensures.built w.0 w.1 in
    IfOk-weaker c.results_from.result (λ (r : Results). AreResults net task w.0 t r) (λ (r : Results). TellFindings t net task r)
    (λ r is. results_tell net task w.0 t r settled (subst (λ v. IsWholeTable net v task w.0) (sym b.spends.keeps.vars) w.1) is) b.ok

pub returns-clause-short : goal.returns-clause-short
returns-clause-short g c =
    let net : RawNet = c.args.net.now.raw in
    let task : Assertion = c.args.task.now in
    let s : Store = g.N.Nodes.store c.args.nodes.now in
    let t : Store = g.N.Nodes.store c.results_from.new.nodes in
    let settled : IsSettled net = settled_by_order net c.args.net.now.settled c.args.net.now.in_order in
    let w = whole_exists net s.vars task settled in
    let b = c.results_from.ensures.built w.0 w.1 in
    λ is. record {
      spent = (b.spends.spent is).full;
      few = short net task s t (g.met.N.Nodes.diagram c.results_from.new.nodes) (g.met.N.Nodes.distinct c.results_from.new.nodes) (g.met.N.Nodes.made_held c.results_from.new.nodes)
          (λ table whole. Spends-out (task_work net task table) s t _ (Unit {0}) (λ u. is) (c.results_from.ensures.built table whole).spends);
    }

pub returns-clause-keeps : goal.returns-clause-keeps
returns-clause-keeps g c =
    let net : RawNet = c.args.net.now.raw in
    let task : Assertion = c.args.task.now in
    let s : Store = g.N.Nodes.store c.args.nodes.now in
    let t : Store = g.N.Nodes.store c.results_from.new.nodes in
    let settled : IsSettled net = settled_by_order net c.args.net.now.settled c.args.net.now.in_order in
    let w = whole_exists net s.vars task settled in
    let b = c.results_from.ensures.built w.0 w.1 in
    b.spends.keeps

pub returns-clause-limit : goal.returns-clause-limit
returns-clause-limit g c =
    let net : RawNet = c.args.net.now.raw in
    let task : Assertion = c.args.task.now in
    let s : Store = g.N.Nodes.store c.args.nodes.now in
    let t : Store = g.N.Nodes.store c.results_from.new.nodes in
    let settled : IsSettled net = settled_by_order net c.args.net.now.settled c.args.net.now.in_order in
    let w = whole_exists net s.vars task settled in
    let b = c.results_from.ensures.built w.0 w.1 in
    b.spends.limit

pub returns-clause-builds : goal.returns-clause-builds
returns-clause-builds g c = λ table whole. (c.results_from.ensures.built table whole).spends.builds
