use Rattle.std.proofs.Common.{◌∷◌, List, Ok, Err}
use Rattle.ste_base.specs.Functions.{Function}
use Rattle.dd_nodes.specs.Stores.{Store}
use Rattle.dd_nodes.proofs.Stores.{Means-keeps}
use Rattle.net_core.specs.Work.{disjunction, factors, product, products}
use Rattle.dual_rail.specs.Rail.{Built, HasFunction}
use Rattle.dual_rail.proofs.Works.{here, behind, or_built, So-start, Built-wider, first, last, pass}
use Rattle.gate_sets.specs.NetSets.{sets_at}
use Rattle.gate_sets.proofs.sums.add_row_product.Goals as goal

pub returns-in_err-whole-clause-built : goal.returns-in_err-whole-clause-built
returns-in_err-whole-clause-built g c = λ sets row f long blank have mf start.
    let s : Store = g.N.Nodes.store c.args.nodes.now in
    let t : Store = g.N.Nodes.store c.row_product.new.nodes in
    let fs : List Function = factors row (sets_at sets c.args.inputs.now) in
    let work : List Function = disjunction f (product fs) ∷ products fs in
    let fault = c.in_err-whole.field-0.0 in
    pass work (HasFunction (product fs)) (HasFunction (disjunction f (product fs))) s s t fault c.from_residual.result (g.met.N.Nodes.diagram c.args.nodes.now) (g.met.N.Nodes.diagram c.row_product.new.nodes) (So-start work s)
    (Built-wider work (products fs) (HasFunction (product fs)) s t (Err fault) (behind (disjunction f (product fs)) (products fs)) (c.in_err-whole.ensures.built sets row long blank have start)) c.from_residual.ensures.1

pub returns-clause-built : goal.returns-clause-built
returns-clause-built g c = λ sets row f long blank have mf start.
    let s : Store = g.N.Nodes.store c.args.nodes.now in
    let t : Store = g.N.Nodes.store c.row_product.new.nodes in
    let u : Store = g.N.Nodes.store c.either.new.nodes in
    let ds = g.met.N.Nodes.diagram c.args.nodes.now in
    let dt = g.met.N.Nodes.diagram c.row_product.new.nodes in
    let du = g.met.N.Nodes.diagram c.either.new.nodes in
    let fs : List Function = factors row (sets_at sets c.args.inputs.now) in
    let work : List Function = disjunction f (product fs) ∷ products fs in
    let whole = c.in_ok-whole.whole in
    let a : Built work (HasFunction (product fs)) s t (Ok whole) = Built-wider work (products fs) (HasFunction (product fs)) s t (Ok whole) (behind (disjunction f (product fs)) (products fs)) (c.in_ok-whole.ensures.built sets row long blank have start) in
    last work (HasFunction (disjunction f (product fs))) s t u c.either.result dt du (first work (HasFunction (product fs)) s t (Ok whole) a)
    (or_built work f (product fs) t u c.args.sum whole c.either.result (here (disjunction f (product fs)) (products fs)) (Means-keeps s t f c.args.sum ds dt a.spends.keeps mf) a.ok c.either.ensures)
