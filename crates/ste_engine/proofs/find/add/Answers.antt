use Rattle.std.proofs.Common.{List, refl, arith, Ok, Err}
use Rattle.ste_base.specs.Functions.{Function}
use Rattle.dd_nodes.specs.Stores.{Store}
use Rattle.dd_nodes.proofs.Stores.{Means-keeps}
use Rattle.net_core.specs.Work.{conjunction, disjunction}
use Rattle.dual_rail.specs.Rail.{Built, HasFunction}
use Rattle.dual_rail.proofs.Works.{So-start, and_built, first, last, or_built, pass}
use Rattle.ste_engine.specs.private.Finds.{add_work}
use Rattle.ste_engine.proofs.find.add.Goals as goal

pub returns-in_err-more : goal.returns-in_err-more
returns-in_err-more g c = λ f h y mf mh my.
    let s : Store = g.N.Nodes.store c.args.nodes.now in
    let t : Store = g.N.Nodes.store c.both.new.nodes in
    let work : List Function = add_work f h y in
    let fault = c.in_err-more.field-0.0 in
    pass work (HasFunction (conjunction h y)) (HasFunction (disjunction f (conjunction h y))) s s t fault c.from_residual.result (g.met.N.Nodes.diagram c.args.nodes.now) (g.met.N.Nodes.diagram c.both.new.nodes) (So-start work s)
    (and_built work h y s t c.args.guard c.args.found (Err fault) (0, omega arith, refl) mh my c.in_err-more.ensures) c.from_residual.ensures.1

pub returns : goal.returns
returns g c = λ f h y mf mh my.
    let s : Store = g.N.Nodes.store c.args.nodes.now in
    let t : Store = g.N.Nodes.store c.both.new.nodes in
    let u : Store = g.N.Nodes.store c.either.new.nodes in
    let gs = g.met.N.Nodes.diagram c.args.nodes.now in
    let gt = g.met.N.Nodes.diagram c.both.new.nodes in
    let work : List Function = add_work f h y in
    let r = c.in_ok-more.more in
    let a : Built work (HasFunction (conjunction h y)) s t (Ok r) = and_built work h y s t c.args.guard c.args.found (Ok r) (0, omega arith, refl) mh my c.in_ok-more.ensures in
    last work (HasFunction (disjunction f (conjunction h y))) s t u c.either.result gt (g.met.N.Nodes.diagram c.either.new.nodes) (first work (HasFunction (conjunction h y)) s t (Ok r) a)
    (or_built work f (conjunction h y) t u c.args.sum r c.either.result (1, omega arith, refl) (Means-keeps s t f c.args.sum gs gt a.spends.keeps mf) a.ok c.either.ensures)
