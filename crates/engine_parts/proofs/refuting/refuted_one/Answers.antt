use Rattle.std.proofs.Common.{List, refl, arith, Ok, Err}
use Rattle.ste_base.specs.Functions.{Function}
use Rattle.dd_nodes.specs.Stores.{Store}
use Rattle.dd_nodes.proofs.Stores.{Means-keeps}
use Rattle.net_core.specs.Work.{conjunction, negation}
use Rattle.dual_rail.specs.Rail.{Built, HasFunction}
use Rattle.dual_rail.proofs.Works.{So-start, and_built, first, last, more, not_built, pass}
use Rattle.engine_parts.specs.Refuting.{both_except_work, except}
use Rattle.engine_parts.proofs.refuting.refuted_one.Goals as goal

pub returns-in_err-not : goal.returns-in_err-not
returns-in_err-not g c = λ x f h mx mf mh.
    let s : Store = g.N.Nodes.store c.args.nodes.now in
    let t : Store = g.N.Nodes.store c.not.new.nodes in
    let work : List Function = both_except_work x f h in
    let fault = c.in_err-not.field-0.0 in
    pass work (HasFunction (negation h)) (HasFunction (conjunction x (except f h))) s s t fault c.from_residual.result (g.met.N.Nodes.diagram c.args.nodes.now) (g.met.N.Nodes.diagram c.not.new.nodes) (So-start work s)
    (not_built work h s t c.args.other (Err fault) (0, omega arith, refl) mh c.in_err-not.ensures) c.from_residual.ensures.1

pub returns-in_err-alone : goal.returns-in_err-alone
returns-in_err-alone g c = λ x f h mx mf mh.
    let s : Store = g.N.Nodes.store c.args.nodes.now in
    let t : Store = g.N.Nodes.store c.not.new.nodes in
    let u : Store = g.N.Nodes.store c.both.new.nodes in
    let gs = g.met.N.Nodes.diagram c.args.nodes.now in
    let gt = g.met.N.Nodes.diagram c.not.new.nodes in
    let work : List Function = both_except_work x f h in
    let not = c.in_ok-not.not in
    let a : Built work (HasFunction (negation h)) s t (Ok not) = not_built work h s t c.args.other (Ok not) (0, omega arith, refl) mh c.in_ok-not.ensures in
    let fault = c.in_err-alone.field-0.0 in
    pass work (HasFunction (except f h)) (HasFunction (conjunction x (except f h))) s t u fault c.from_residual-in_err-alone.result gt (g.met.N.Nodes.diagram c.both.new.nodes) (first work (HasFunction (negation h)) s t (Ok not) a)
    (and_built work f (negation h) t u c.args.one not (Err fault) (1, omega arith, refl) (Means-keeps s t f c.args.one gs gt a.spends.keeps mf) a.ok c.in_err-alone.ensures) c.from_residual-in_err-alone.ensures.1

pub returns : goal.returns
returns g c = λ x f h mx mf mh.
    let s : Store = g.N.Nodes.store c.args.nodes.now in
    let t : Store = g.N.Nodes.store c.not.new.nodes in
    let u : Store = g.N.Nodes.store c.both.new.nodes in
    let v : Store = g.N.Nodes.store c.both-2.new.nodes in
    let gs = g.met.N.Nodes.diagram c.args.nodes.now in
    let gt = g.met.N.Nodes.diagram c.not.new.nodes in
    let gu = g.met.N.Nodes.diagram c.both.new.nodes in
    let work : List Function = both_except_work x f h in
    let not = c.in_ok-not.not in
    let alone = c.in_ok-alone.alone in
    let a : Built work (HasFunction (negation h)) s t (Ok not) = not_built work h s t c.args.other (Ok not) (0, omega arith, refl) mh c.in_ok-not.ensures in
    let b : Built work (HasFunction (except f h)) t u (Ok alone) = and_built work f (negation h) t u c.args.one not (Ok alone) (1, omega arith, refl) (Means-keeps s t f c.args.one gs gt a.spends.keeps mf) a.ok c.in_ok-alone.ensures in
    let so = more work (HasFunction (except f h)) s t u (Ok alone) gt gu (first work (HasFunction (negation h)) s t (Ok not) a) b in
    last work (HasFunction (conjunction x (except f h))) s u v c.both-2.result gu (g.met.N.Nodes.diagram c.both-2.new.nodes) so
    (and_built work x (except f h) u v c.args.value alone c.both-2.result (2, omega arith, refl) (Means-keeps s u x c.args.value gs gu so.keeps mx) b.ok c.both-2.ensures)
