use Rattle.std.proofs.Common.{List, refl, arith, Ok, Err}
use Rattle.ste_base.specs.Functions.{Function}
use Rattle.dd_nodes.specs.Stores.{Store}
use Rattle.net_core.specs.Work.{some_bit, no_bit, empty_work}
use Rattle.dual_rail.specs.Rail.{Built, HasFunction}
use Rattle.dual_rail.proofs.Works.{or_built, not_built, So-start, first, last, pass}
use Rattle.dual_rail.proofs.sets.empty.Goals as goal

pub returns-in_err-some : goal.returns-in_err-some
returns-in_err-some g c = λ w m.
    let s : Store = g.N.Nodes.store c.args.nodes.now in
    let t : Store = g.N.Nodes.store c.either.new.nodes in
    let work : List Function = empty_work w in
    pass work (HasFunction (some_bit w)) (HasFunction (no_bit w)) s s t c.in_err-some.field-0.0 c.from_residual.result (g.met.N.Nodes.diagram c.args.nodes.now) (g.met.N.Nodes.diagram c.either.new.nodes) (So-start work s)
    (or_built work w.zero w.one s t c.args.r.can0 c.args.r.can1 (Err c.in_err-some.field-0.0) (0, omega arith, refl) m.zero m.one c.in_err-some.ensures) c.from_residual.ensures.1

pub returns : goal.returns
returns g c = λ w m.
    let s : Store = g.N.Nodes.store c.args.nodes.now in
    let t : Store = g.N.Nodes.store c.either.new.nodes in
    let u : Store = g.N.Nodes.store c.not.new.nodes in
    let work : List Function = empty_work w in
    let some = c.in_ok-some.some in
    let made : Built work (HasFunction (some_bit w)) s t (Ok some) = or_built work w.zero w.one s t c.args.r.can0 c.args.r.can1 (Ok some) (0, omega arith, refl) m.zero m.one c.in_ok-some.ensures in
    last work (HasFunction (no_bit w)) s t u c.not.result (g.met.N.Nodes.diagram c.either.new.nodes) (g.met.N.Nodes.diagram c.not.new.nodes) (first work (HasFunction (some_bit w)) s t (Ok some) made)
    (not_built work (some_bit w) t u some c.not.result (1, omega arith, refl) made.ok c.not.ensures)
