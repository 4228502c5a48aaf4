use Rattle.std.proofs.Common.{List, refl, arith, Ok, Err}
use Rattle.ste_base.specs.Functions.{Function}
use Rattle.dd_nodes.specs.Stores.{Store}
use Rattle.dd_nodes.proofs.Stores.{Means-keeps}
use Rattle.net_core.specs.Work.{conjunction, negation}
use Rattle.dual_rail.specs.Rail.{Built, HasFunction}
use Rattle.dual_rail.proofs.Works.{Built-wider, So-start, behind, first, last, not_built, pass}
use Rattle.engine_parts.specs.Refuting.{both_except_work, except, opposite_except_work}
use Rattle.engine_parts.proofs.refuting.refuted_zero.Goals as goal

pub returns-in_err-opposite : goal.returns-in_err-opposite
returns-in_err-opposite g c = λ x f h mx mf mh.
    let s : Store = g.N.Nodes.store c.args.nodes.now in
    let t : Store = g.N.Nodes.store c.not.new.nodes in
    let work : List Function = opposite_except_work x f h in
    let fault = c.in_err-opposite.field-0.0 in
    pass work (HasFunction (negation x)) (HasFunction (conjunction (negation x) (except f h))) s s t fault c.from_residual.result (g.met.N.Nodes.diagram c.args.nodes.now) (g.met.N.Nodes.diagram c.not.new.nodes) (So-start work s)
    (not_built work x s t c.args.value (Err fault) (0, omega arith, refl) mx c.in_err-opposite.ensures) c.from_residual.ensures.1

pub returns : goal.returns
returns g c = λ x f h mx mf mh.
    let s : Store = g.N.Nodes.store c.args.nodes.now in
    let t : Store = g.N.Nodes.store c.not.new.nodes in
    let u : Store = g.N.Nodes.store c.refuted_one.new.nodes in
    let gs = g.met.N.Nodes.diagram c.args.nodes.now in
    let gt = g.met.N.Nodes.diagram c.not.new.nodes in
    let work : List Function = opposite_except_work x f h in
    let part : List Function = both_except_work (negation x) f h in
    let found : Function = conjunction (negation x) (except f h) in
    let opposite = c.in_ok-opposite.opposite in
    let a : Built work (HasFunction (negation x)) s t (Ok opposite) = not_built work x s t c.args.value (Ok opposite) (0, omega arith, refl) mx c.in_ok-opposite.ensures in
    let k = a.spends.keeps in
    last work (HasFunction found) s t u c.refuted_one.result gt (g.met.N.Nodes.diagram c.refuted_one.new.nodes) (first work (HasFunction (negation x)) s t (Ok opposite) a)
    (Built-wider work part (HasFunction found) t u c.refuted_one.result (λ y has. behind (negation x) part y has)
    (c.refuted_one.ensures (negation x) f h a.ok (Means-keeps s t f c.args.one gs gt k mf) (Means-keeps s t h c.args.other gs gt k mh)))
