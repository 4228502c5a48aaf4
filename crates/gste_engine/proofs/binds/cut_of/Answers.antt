use Rattle.std.proofs.Common.{List, refl, Ok, Err}
use Rattle.std.proofs.lemmas.List.Elements.{Contains-append_left, Contains-append_right}
use Rattle.ste_base.specs.Functions.{Function}
use Rattle.dd_nodes.specs.Stores.{Store}
use Rattle.dd_nodes.proofs.Stores.{Means-keeps}
use Rattle.dual_rail.specs.Rail.{HasFunction}
use Rattle.dual_rail.proofs.Works.{Built-made, Built-wider, So-start, first, more, pass}
use Rattle.ste_model.specs.Expressions.{symbolic_value}
use Rattle.ste_model.specs.GraphWork.{symbolic_bind}
use Rattle.sym_step.specs.Step.{IsCutBy}
use Rattle.gste_engine.specs.private.Given.{bind_work}
use Rattle.engine_parts.proofs.Exprs.{value_means}
use Rattle.gste_engine.proofs.binds.cut_of.Goals as goal

pub returns-in_err-guard : goal.returns-in_err-guard
returns-in_err-guard g c =
    let s : Store = g.N.Nodes.store c.args.nodes.now in
    let t : Store = g.N.Nodes.store c.build.new.nodes in
    let q = c.args.bind.now in
    let work : List Function = bind_work q in
    let guard = symbolic_value q.guard in
    let fault = c.in_err-guard.field-0.0 in
    pass work (HasFunction guard.value) (λ t a. IsCutBy t (symbolic_bind q) a) s s t fault c.from_residual.result (g.met.N.Nodes.diagram c.args.nodes.now) (g.met.N.Nodes.diagram c.build.new.nodes) (So-start work s)
    (Built-wider work guard.work (HasFunction guard.value) s t (Err fault) (λ k y. Contains-append_left guard.work (symbolic_value q.value).work k y) c.in_err-guard.ensures) c.from_residual.ensures.1

pub returns-in_err-value : goal.returns-in_err-value
returns-in_err-value g c =
    let s : Store = g.N.Nodes.store c.args.nodes.now in
    let t : Store = g.N.Nodes.store c.build.new.nodes in
    let u : Store = g.N.Nodes.store c.build-2.new.nodes in
    let q = c.args.bind.now in
    let work : List Function = bind_work q in
    let guard = symbolic_value q.guard in
    let value = symbolic_value q.value in
    let r = c.in_ok-guard.guard in
    let a = Built-wider work guard.work (HasFunction guard.value) s t (Ok r) (λ k y. Contains-append_left guard.work value.work k y) c.in_ok-guard.ensures in
    let fault = c.in_err-value.field-0.0 in
    pass work (HasFunction value.value) (λ t a. IsCutBy t (symbolic_bind q) a) s t u fault c.from_residual-in_err-value.result (g.met.N.Nodes.diagram c.build.new.nodes) (g.met.N.Nodes.diagram c.build-2.new.nodes) (first work (HasFunction guard.value) s t (Ok r) a)
    (Built-wider work value.work (HasFunction value.value) t u (Err fault) (λ k y. Contains-append_right guard.work value.work k y) c.in_err-value.ensures) c.from_residual-in_err-value.ensures.1

pub returns : goal.returns
returns g c =
    let s : Store = g.N.Nodes.store c.args.nodes.now in
    let t : Store = g.N.Nodes.store c.build.new.nodes in
    let u : Store = g.N.Nodes.store c.build-2.new.nodes in
    let gt = g.met.N.Nodes.diagram c.build.new.nodes in
    let gu = g.met.N.Nodes.diagram c.build-2.new.nodes in
    let q = c.args.bind.now in
    let work : List Function = bind_work q in
    let guard = symbolic_value q.guard in
    let value = symbolic_value q.value in
    let r = c.in_ok-guard.guard in
    let x = c.in_ok-value.value in
    let a = Built-wider work guard.work (HasFunction guard.value) s t (Ok r) (λ k y. Contains-append_left guard.work value.work k y) c.in_ok-guard.ensures in
    let b = Built-wider work value.work (HasFunction value.value) t u (Ok x) (λ k y. Contains-append_right guard.work value.work k y) c.in_ok-value.ensures in
    Built-made work (λ t a. IsCutBy t (symbolic_bind q) a) s u (record { node = q.node; guard = r; value = x })
    (more work (HasFunction value.value) s t u (Ok x) gt gu (first work (HasFunction guard.value) s t (Ok r) a) b)
    (record {
      node = refl;
      guard = value_means u q.guard r (Means-keeps t u guard.value r gt gu b.spends.keeps a.ok);
      value = value_means u q.value x b.ok;
    })
