use Rattle.std.proofs.Common.{List, refl, arith, Ok, Err}
use Rattle.ste_base.specs.Functions.{Function}
use Rattle.dd_nodes.specs.Stores.{Store}
use Rattle.dd_nodes.proofs.Stores.{Means-keeps}
use Rattle.net_core.specs.Work.{negation}
use Rattle.dual_rail.specs.Rail.{Built, HasFunction}
use Rattle.dual_rail.proofs.Works.{So-start, and_built, first, last, not_built, pass}
use Rattle.engine_parts.specs.Refuting.{except, except_work}
use Rattle.engine_parts.proofs.refuting.but_not.Goals as goal

pub returns-in_err-not : goal.returns-in_err-not
returns-in_err-not g c = λ f h mf mh.
    let s : Store = g.N.Nodes.store c.args.nodes.now in
    let t : Store = g.N.Nodes.store c.not.new.nodes in
    let work : List Function = except_work f h in
    let fault = c.in_err-not.field-0.0 in
    pass work (HasFunction (negation h)) (HasFunction (except f h)) s s t fault c.from_residual.result (g.met.N.Nodes.diagram c.args.nodes.now) (g.met.N.Nodes.diagram c.not.new.nodes) (So-start work s)
    (not_built work h s t c.args.other (Err fault) (0, omega arith, refl) mh c.in_err-not.ensures) c.from_residual.ensures.1

pub returns : goal.returns
returns g c = λ f h mf mh.
    let s : Store = g.N.Nodes.store c.args.nodes.now in
    let t : Store = g.N.Nodes.store c.not.new.nodes in
    let u : Store = g.N.Nodes.store c.both.new.nodes in
    let gs = g.met.N.Nodes.diagram c.args.nodes.now in
    let gt = g.met.N.Nodes.diagram c.not.new.nodes in
    let work : List Function = except_work f h in
    let not = c.in_ok-not.not in
    let a : Built work (HasFunction (negation h)) s t (Ok not) = not_built work h s t c.args.other (Ok not) (0, omega arith, refl) mh c.in_ok-not.ensures in
    last work (HasFunction (except f h)) s t u c.both.result gt (g.met.N.Nodes.diagram c.both.new.nodes) (first work (HasFunction (negation h)) s t (Ok not) a)
    (and_built work f (negation h) t u c.args.one not c.both.result (1, omega arith, refl) (Means-keeps s t f c.args.one gs gt a.spends.keeps mf) a.ok c.both.ensures)
