use Rattle.std.proofs.Common.{List, refl, arith, Ok, Err}
use Rattle.ste_base.specs.Functions.{Function}
use Rattle.dd_nodes.specs.Stores.{Store}
use Rattle.dd_nodes.proofs.Stores.{Means-keeps}
use Rattle.net_core.specs.Work.{conjunction, disjunction}
use Rattle.dual_rail.specs.Rail.{Built, HasFunction}
use Rattle.dual_rail.proofs.Works.{So-start, and_built, first, last, more, or_built, pass}
use Rattle.gste_engine.specs.private.EdgeFinds.{gated_add_work, gated_finding}
use Rattle.gste_engine.proofs.found.add.Goals as goal

pub returns-in_err-asked : goal.returns-in_err-asked
returns-in_err-asked g c = λ f h y z mf mh my mz.
    let s : Store = g.N.Nodes.store c.args.nodes.now in
    let t : Store = g.N.Nodes.store c.both.new.nodes in
    let work : List Function = gated_add_work f h y z in
    let fault = c.in_err-asked.field-0.0 in
    pass work (HasFunction (conjunction h y)) (HasFunction (disjunction f (gated_finding h y z))) s s t fault c.from_residual.result (g.met.N.Nodes.diagram c.args.nodes.now) (g.met.N.Nodes.diagram c.both.new.nodes) (So-start work s)
    (and_built work h y s t c.args.guard c.args.found (Err fault) (0, omega arith, refl) mh my c.in_err-asked.ensures) c.from_residual.ensures.1

pub returns-in_err-more : goal.returns-in_err-more
returns-in_err-more g c = λ f h y z mf mh my mz.
    let s : Store = g.N.Nodes.store c.args.nodes.now in
    let t : Store = g.N.Nodes.store c.both.new.nodes in
    let u : Store = g.N.Nodes.store c.both-2.new.nodes in
    let gs = g.met.N.Nodes.diagram c.args.nodes.now in
    let gt = g.met.N.Nodes.diagram c.both.new.nodes in
    let gu = g.met.N.Nodes.diagram c.both-2.new.nodes in
    let work : List Function = gated_add_work f h y z in
    let r = c.in_ok-asked.asked in
    let a : Built work (HasFunction (conjunction h y)) s t (Ok r) = and_built work h y s t c.args.guard c.args.found (Ok r) (0, omega arith, refl) mh my c.in_ok-asked.ensures in
    let fault = c.in_err-more.field-0.0 in
    pass work (HasFunction (gated_finding h y z)) (HasFunction (disjunction f (gated_finding h y z))) s t u fault c.from_residual-in_err-more.result gt gu (first work (HasFunction (conjunction h y)) s t (Ok r) a)
    (and_built work (conjunction h y) z t u r c.args.gate (Err fault) (1, omega arith, refl) a.ok (Means-keeps s t z c.args.gate gs gt a.spends.keeps mz) c.in_err-more.ensures) c.from_residual-in_err-more.ensures.1

pub returns : goal.returns
returns g c = λ f h y z mf mh my mz.
    let s : Store = g.N.Nodes.store c.args.nodes.now in
    let t : Store = g.N.Nodes.store c.both.new.nodes in
    let u : Store = g.N.Nodes.store c.both-2.new.nodes in
    let v : Store = g.N.Nodes.store c.either.new.nodes in
    let gs = g.met.N.Nodes.diagram c.args.nodes.now in
    let gt = g.met.N.Nodes.diagram c.both.new.nodes in
    let gu = g.met.N.Nodes.diagram c.both-2.new.nodes in
    let work : List Function = gated_add_work f h y z in
    let r = c.in_ok-asked.asked in
    let q = c.in_ok-more.more in
    let a : Built work (HasFunction (conjunction h y)) s t (Ok r) = and_built work h y s t c.args.guard c.args.found (Ok r) (0, omega arith, refl) mh my c.in_ok-asked.ensures in
    let b : Built work (HasFunction (gated_finding h y z)) t u (Ok q) = and_built work (conjunction h y) z t u r c.args.gate (Ok q) (1, omega arith, refl) a.ok (Means-keeps s t z c.args.gate gs gt a.spends.keeps mz) c.in_ok-more.ensures in
    let so = more work (HasFunction (gated_finding h y z)) s t u (Ok q) gt gu (first work (HasFunction (conjunction h y)) s t (Ok r) a) b in
    last work (HasFunction (disjunction f (gated_finding h y z))) s u v c.either.result gu (g.met.N.Nodes.diagram c.either.new.nodes) so
    (or_built work f (gated_finding h y z) u v c.args.sum q c.either.result (2, omega arith, refl) (Means-keeps s u f c.args.sum gs gu so.keeps mf) b.ok c.either.ensures)
