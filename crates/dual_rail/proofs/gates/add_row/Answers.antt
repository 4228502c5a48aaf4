use Rattle.std.proofs.Common.{◌∷◌, List, map, Ok, Err}
use Rattle.ste_base.specs.Functions.{Function}
use Rattle.dd_nodes.specs.Stores.{Store}
use Rattle.net_core.specs.Work.{disjunction, factors, product}
use Rattle.dual_rail.specs.Rail.{Built, HasFunction}
use Rattle.dual_rail.specs.private.Parts.{row_work}
use Rattle.dual_rail.proofs.Works.{here, behind, or_built, So-start, Built-wider, first, last, pass}
use Rattle.dd_nodes.proofs.Stores.{Means-keeps}
use Rattle.dual_rail.proofs.Turns.{own_zip}
use Rattle.dual_rail.proofs.Works.{set_where}
use Rattle.dd_nodes.proofs.Walks.{IsFrom-grows}
use Rattle.dual_rail.proofs.gates.add_row.Goals as goal

pub returns-in_err-all : goal.returns-in_err-all
returns-in_err-all g c = λ f sets mf zip.
    let s : Store = g.N.Nodes.store c.args.nodes.now in
    let t : Store = g.N.Nodes.store c.row_product.new.nodes in
    let row = c.args.row.now in
    let p : Function = product (factors row sets) in
    let work : List Function = disjunction f p ∷ row_work row sets in
    let fault = c.in_err-all.field-0.0 in
    pass work (HasFunction p) (HasFunction (disjunction f p)) s s t fault c.from_residual.result (g.met.N.Nodes.diagram c.args.nodes.now) (g.met.N.Nodes.diagram c.row_product.new.nodes) (So-start work s)
    (Built-wider work (row_work row sets) (HasFunction p) s t (Err fault) (λ x h. behind (disjunction f p) (row_work row sets) x h) (c.in_err-all.ensures sets zip)) c.from_residual.ensures.1

pub either-requires-clause-right : goal.either-requires-clause-right
either-requires-clause-right g c =
    let s : Store = g.N.Nodes.store c.args.nodes.now in
    (c.in_ok-all.ensures (map (set_where s) c.args.inputs.now) (own_zip s c.args.inputs.now c.requires.refs)).ok.ref

pub either-requires-clause-left : goal.either-requires-clause-left
either-requires-clause-left g c =
    let s : Store = g.N.Nodes.store c.args.nodes.now in
    let t : Store = g.N.Nodes.store c.row_product.new.nodes in
    let k = (c.in_ok-all.ensures (map (set_where s) c.args.inputs.now) (own_zip s c.args.inputs.now c.requires.refs)).spends.keeps in
    IsFrom-grows s.held t.held 0 c.args.sum k.grows c.requires.sum

pub returns : goal.returns
returns g c = λ f sets mf zip.
    let s : Store = g.N.Nodes.store c.args.nodes.now in
    let t : Store = g.N.Nodes.store c.row_product.new.nodes in
    let u : Store = g.N.Nodes.store c.either.new.nodes in
    let ds = g.met.N.Nodes.diagram c.args.nodes.now in
    let dt = g.met.N.Nodes.diagram c.row_product.new.nodes in
    let du = g.met.N.Nodes.diagram c.either.new.nodes in
    let row = c.args.row.now in
    let p : Function = product (factors row sets) in
    let work : List Function = disjunction f p ∷ row_work row sets in
    let all = c.in_ok-all.all in
    let made : Built work (HasFunction p) s t (Ok all) = Built-wider work (row_work row sets) (HasFunction p) s t (Ok all) (λ x h. behind (disjunction f p) (row_work row sets) x h) (c.in_ok-all.ensures sets zip) in
    last work (HasFunction (disjunction f p)) s t u c.either.result dt du (first work (HasFunction p) s t (Ok all) made)
    (or_built work f p t u c.args.sum all c.either.result (here (disjunction f p) (row_work row sets)) (Means-keeps s t f c.args.sum ds dt made.spends.keeps mf) made.ok c.either.ensures)
