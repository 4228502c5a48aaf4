use Rattle.std.proofs.Common.{List, refl, arith, Ok, Err}
use Rattle.ste_base.specs.Functions.{Function}
use Rattle.dd_nodes.specs.Stores.{Store}
use Rattle.net_core.specs.Work.{conjunction, negation}
use Rattle.dual_rail.specs.Rail.{Built, HasFunction}
use Rattle.dual_rail.specs.private.Parts.{without, without_work}
use Rattle.dual_rail.proofs.Works.{except_built, So-start, first, last, pass}
use Rattle.dd_nodes.proofs.Stores.{Means-keeps}
use Rattle.dual_rail.proofs.sets.without_opposite.Goals as goal

pub returns-in_err-asked : goal.returns-in_err-asked
returns-in_err-asked g c = λ f gd x mf mg mx.
    let s : Store = g.N.Nodes.store c.args.nodes.now in
    let t : Store = g.N.Nodes.store c.except.new.nodes in
    let work : List Function = without_work f gd (negation x) in
    pass work (HasFunction (conjunction gd (negation x))) (HasFunction (without f gd (negation x))) s s t c.in_err-asked.field-0.0 c.from_residual.result (g.met.N.Nodes.diagram c.args.nodes.now) (g.met.N.Nodes.diagram c.except.new.nodes) (So-start work s)
    (except_built work gd x s t c.args.guard c.args.value (Err c.in_err-asked.field-0.0) (0, omega arith, refl) mg mx c.in_err-asked.ensures) c.from_residual.ensures.1

pub returns : goal.returns
returns g c = λ f gd x mf mg mx.
    let s : Store = g.N.Nodes.store c.args.nodes.now in
    let t : Store = g.N.Nodes.store c.except.new.nodes in
    let u : Store = g.N.Nodes.store c.except-2.new.nodes in
    let ds = g.met.N.Nodes.diagram c.args.nodes.now in
    let dt = g.met.N.Nodes.diagram c.except.new.nodes in
    let du = g.met.N.Nodes.diagram c.except-2.new.nodes in
    let work : List Function = without_work f gd (negation x) in
    let asked = c.in_ok-asked.asked in
    let made : Built work (HasFunction (conjunction gd (negation x))) s t (Ok asked) = except_built work gd x s t c.args.guard c.args.value (Ok asked) (0, omega arith, refl) mg mx c.in_ok-asked.ensures in
    last work (HasFunction (without f gd (negation x))) s t u c.except-2.result dt du (first work (HasFunction (conjunction gd (negation x))) s t (Ok asked) made)
    (except_built work f (conjunction gd (negation x)) t u c.args.rail asked c.except-2.result (2, omega arith, refl) (Means-keeps s t f c.args.rail ds dt made.spends.keeps mf) made.ok c.except-2.ensures)
