use Rattle.std.proofs.Common.{List, Ok, Err}
use Rattle.ste_base.specs.Functions.{Function}
use Rattle.dd_nodes.specs.Stores.{Store, function}
use Rattle.dd_nodes.proofs.Stores.{Means-keeps}
use Rattle.dd_nodes.proofs.Walks.{IsFrom-grows}
use Rattle.net_core.specs.Work.{disjunction, product, products}
use Rattle.dual_rail.specs.Rail.{HasFunction}
use Rattle.dual_rail.proofs.Works.{So-start, Built-wider, behind, first, here, last, or_built, pass}
use Rattle.exact_model.specs.ExactWork.{row_factors}
use Rattle.exact_engine.specs.private.Bits.{added_work, net_ref, of_nodes}
use Rattle.exact_engine.proofs.Rows.{own_at}
use Rattle.exact_engine.proofs.gates.add_row.Goals as goal

pub either-requires-clause-left : goal.either-requires-clause-left
either-requires-clause-left g c =
    let s : Store = g.N.Nodes.store c.args.nodes.now in
    let call = c.in_ok-all.ensures (λ id. function s (net_ref c.args.bits.now id)) (own_at s c.args.bits.now c.args.inputs.now c.requires.refs c.requires.within) in
    IsFrom-grows s.held (g.N.Nodes.store c.row_product.new.nodes).held 0 c.args.sum call.spends.keeps.grows c.requires.sum

pub either-requires-clause-right : goal.either-requires-clause-right
either-requires-clause-right g c =
    let s : Store = g.N.Nodes.store c.args.nodes.now in
    (c.in_ok-all.ensures (λ id. function s (net_ref c.args.bits.now id)) (own_at s c.args.bits.now c.args.inputs.now c.requires.refs c.requires.within)).ok.ref

pub returns-in_err-all : goal.returns-in_err-all
returns-in_err-all g c = λ f bit m at.
    let s : Store = g.N.Nodes.store c.args.nodes.now in
    let t : Store = g.N.Nodes.store c.row_product.new.nodes in
    let fs : List Function = row_factors c.args.row.now (of_nodes bit c.args.inputs.now) in
    let work : List Function = added_work f fs in
    let fault = c.in_err-all.field-0.0 in
    pass work (HasFunction (product fs)) (HasFunction (disjunction f (product fs))) s s t fault c.from_residual.result (g.met.N.Nodes.diagram c.args.nodes.now) (g.met.N.Nodes.diagram c.row_product.new.nodes) (So-start work s)
    (Built-wider work (products fs) (HasFunction (product fs)) s t (Err fault) (λ k h. behind (disjunction f (product fs)) (products fs) k h) (c.in_err-all.ensures bit at)) c.from_residual.ensures.1

pub returns : goal.returns
returns g c = λ f bit m at.
    let s : Store = g.N.Nodes.store c.args.nodes.now in
    let t : Store = g.N.Nodes.store c.row_product.new.nodes in
    let u : Store = g.N.Nodes.store c.either.new.nodes in
    let ds = g.met.N.Nodes.diagram c.args.nodes.now in
    let dt = g.met.N.Nodes.diagram c.row_product.new.nodes in
    let du = g.met.N.Nodes.diagram c.either.new.nodes in
    let fs : List Function = row_factors c.args.row.now (of_nodes bit c.args.inputs.now) in
    let work : List Function = added_work f fs in
    let all = c.in_ok-all.all in
    let a = Built-wider work (products fs) (HasFunction (product fs)) s t (Ok all) (λ k h. behind (disjunction f (product fs)) (products fs) k h) (c.in_ok-all.ensures bit at) in
    last work (HasFunction (disjunction f (product fs))) s t u c.either.result dt du (first work (HasFunction (product fs)) s t (Ok all) a)
    (or_built work f (product fs) t u c.args.sum all c.either.result (here (disjunction f (product fs)) (products fs)) (Means-keeps s t f c.args.sum ds dt a.spends.keeps m) a.ok c.either.ensures)
