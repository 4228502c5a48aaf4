use Rattle.std.proofs.Common.{List, refl, arith, Ok, Err}
use Rattle.ste_base.specs.Functions.{Function}
use Rattle.dd_nodes.specs.Stores.{Store}
use Rattle.dd_nodes.proofs.Stores.{Means-keeps}
use Rattle.net_core.specs.Work.{disjunction}
use Rattle.dual_rail.specs.Rail.{Built, HasFunction}
use Rattle.dual_rail.proofs.Works.{Built-wider, So-start, and_built, behind, first, last, pass}
use Rattle.ste_model.specs.Work.{both_bits, found_weak}
use Rattle.ste_engine.specs.private.Finds.{add_work, weak_work}
use Rattle.ste_engine.proofs.find.add_weak.Goals as goal

pub returns-in_err-found : goal.returns-in_err-found
returns-in_err-found g c = λ f w h x mf mw mh.
    let s : Store = g.N.Nodes.store c.args.nodes.now in
    let t : Store = g.N.Nodes.store c.both.new.nodes in
    let work : List Function = weak_work f w h in
    let fault = c.in_err-found.field-0.0 in
    pass work (HasFunction (both_bits w)) (HasFunction (disjunction f (found_weak w h x))) s s t fault c.from_residual.result (g.met.N.Nodes.diagram c.args.nodes.now) (g.met.N.Nodes.diagram c.both.new.nodes) (So-start work s)
    (and_built work w.zero w.one s t c.args.r.can0 c.args.r.can1 (Err fault) (0, omega arith, refl) mw.zero mw.one c.in_err-found.ensures) c.from_residual.ensures.1

pub returns : goal.returns
returns g c = λ f w h x mf mw mh.
    let s : Store = g.N.Nodes.store c.args.nodes.now in
    let t : Store = g.N.Nodes.store c.both.new.nodes in
    let u : Store = g.N.Nodes.store c.add.new.nodes in
    let gs = g.met.N.Nodes.diagram c.args.nodes.now in
    let gt = g.met.N.Nodes.diagram c.both.new.nodes in
    let work : List Function = weak_work f w h in
    let part : List Function = add_work f h (both_bits w) in
    let sum : Function = disjunction f (found_weak w h x) in
    let r = c.in_ok-found.found in
    let a : Built work (HasFunction (both_bits w)) s t (Ok r) = and_built work w.zero w.one s t c.args.r.can0 c.args.r.can1 (Ok r) (0, omega arith, refl) mw.zero mw.one c.in_ok-found.ensures in
    let k = a.spends.keeps in
    last work (HasFunction sum) s t u c.add.result gt (g.met.N.Nodes.diagram c.add.new.nodes) (first work (HasFunction (both_bits w)) s t (Ok r) a)
    (Built-wider work part (HasFunction sum) t u c.add.result (λ y has. behind (both_bits w) part y has)
    (c.add.ensures f h (both_bits w) (Means-keeps s t f c.args.sum gs gt k mf) (Means-keeps s t h c.args.guard gs gt k mh) a.ok))
