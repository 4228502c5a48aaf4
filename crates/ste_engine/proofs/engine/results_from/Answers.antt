use Rattle.std.proofs.Common.{IfSome, Option, sym, subst}
use Rattle.dd_nodes.specs.Stores.{Store}
use Rattle.dual_rail.proofs.Works.{So-start, lost, pass}
use Rattle.net_core.specs.declared.raw.RawNet.{RawNet}
use Rattle.ste_model.specs.declared.task.Assertion.{Assertion}
use Rattle.ste_model.specs.Work.{task_work}
use Rattle.sym_step.specs.declared.frame.Frame.{Frame}
use Rattle.sym_step.specs.Frame.{IsFrame}
use Rattle.ste_engine.specs.private.Turns.{AreResults}
use Rattle.ste_engine.proofs.engine.results_from.Goals as goal

pub results-requires-clause-frame : goal.results-requires-clause-frame
results-requires-clause-frame g c =
    let s : Store = g.N.Nodes.store c.args.nodes.now in
    c.in_ok-frame.ensures.frame s (g.met.N.Nodes.diagram c.args.nodes.now) (subst (λ (o : Option Frame). IfSome o (IsFrame s c.args.net.now.raw)) (sym c.take.ensures.value) c.requires.last)

pub returns-in_err-frame-clause-built : goal.returns-in_err-frame-clause-built
returns-in_err-frame-clause-built g c = λ table whole.
    let net : RawNet = c.args.net.now.raw in
    let task : Assertion = c.args.task.now in
    let s : Store = g.N.Nodes.store c.args.nodes.now in
    lost (task_work net task table) (AreResults net task table) s s c.from_residual.result (So-start (task_work net task table) s) c.from_residual.ensures.1

pub returns-in_err-r-clause-built : goal.returns-in_err-r-clause-built
returns-in_err-r-clause-built g c = λ table whole.
    let net : RawNet = c.args.net.now.raw in
    let task : Assertion = c.args.task.now in
    let s : Store = g.N.Nodes.store c.args.nodes.now in
    let t : Store = g.N.Nodes.store c.results.new.nodes in
    let gs = g.met.N.Nodes.diagram c.args.nodes.now in
    let gt = g.met.N.Nodes.diagram c.results.new.nodes in
    let fault = c.in_err-r.field-0.0 in
    pass (task_work net task table) (AreResults net task table) (AreResults net task table) s s t fault c.from_residual-in_err-r.result gs gt (So-start (task_work net task table) s) (c.in_err-r.ensures.built table whole) c.from_residual-in_err-r.ensures.1
