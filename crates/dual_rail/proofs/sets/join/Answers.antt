use Rattle.std.proofs.Common.{List, refl, arith, Ok, Err}
use Rattle.ste_base.specs.Functions.{Function}
use Rattle.dd_nodes.specs.Stores.{Store}
use Rattle.net_core.specs.Work.{disjunction, union, union_work}
use Rattle.dual_rail.specs.declared.rails.Rails.{Rails}
use Rattle.dual_rail.specs.Rail.{Built, HasFunction, HasSet}
use Rattle.dual_rail.proofs.Works.{or_built, So-start, Built-made, Rails-keep, first, more, pass}
use Rattle.dd_nodes.proofs.Stores.{Means-keeps}
use Rattle.dual_rail.proofs.sets.join.Goals as goal

pub returns-in_err-can0 : goal.returns-in_err-can0
returns-in_err-can0 g c = λ v w mv mw.
    let s : Store = g.N.Nodes.store c.args.nodes.now in
    let t : Store = g.N.Nodes.store c.either.new.nodes in
    let work : List Function = union_work v w in
    pass work (HasFunction (disjunction v.zero w.zero)) (HasSet (union v w)) s s t c.in_err-can0.field-0.0 c.from_residual.result (g.met.N.Nodes.diagram c.args.nodes.now) (g.met.N.Nodes.diagram c.either.new.nodes) (So-start work s)
    (or_built work v.zero w.zero s t c.args.a.can0 c.args.b.can0 (Err c.in_err-can0.field-0.0) (0, omega arith, refl) mv.zero mw.zero c.in_err-can0.ensures) c.from_residual.ensures.1

pub returns-in_err-can1 : goal.returns-in_err-can1
returns-in_err-can1 g c = λ v w mv mw.
    let s : Store = g.N.Nodes.store c.args.nodes.now in
    let t : Store = g.N.Nodes.store c.either.new.nodes in
    let u : Store = g.N.Nodes.store c.either-2.new.nodes in
    let ds = g.met.N.Nodes.diagram c.args.nodes.now in
    let dt = g.met.N.Nodes.diagram c.either.new.nodes in
    let work : List Function = union_work v w in
    let made : Built work (HasFunction (disjunction v.zero w.zero)) s t (Ok c.in_ok-can0.can0) = or_built work v.zero w.zero s t c.args.a.can0 c.args.b.can0 (Ok c.in_ok-can0.can0) (0, omega arith, refl) mv.zero mw.zero c.in_ok-can0.ensures in
    let av = Rails-keep s t v c.args.a ds dt made.spends.keeps mv in
    let bw = Rails-keep s t w c.args.b ds dt made.spends.keeps mw in
    pass work (HasFunction (disjunction v.one w.one)) (HasSet (union v w)) s t u c.in_err-can1.field-0.0 c.from_residual-in_err-can1.result dt (g.met.N.Nodes.diagram c.either-2.new.nodes) (first work (HasFunction (disjunction v.zero w.zero)) s t (Ok c.in_ok-can0.can0) made)
    (or_built work v.one w.one t u c.args.a.can1 c.args.b.can1 (Err c.in_err-can1.field-0.0) (1, omega arith, refl) av.one bw.one c.in_err-can1.ensures) c.from_residual-in_err-can1.ensures.1

pub returns : goal.returns
returns g c = λ v w mv mw.
    let s : Store = g.N.Nodes.store c.args.nodes.now in
    let t : Store = g.N.Nodes.store c.either.new.nodes in
    let u : Store = g.N.Nodes.store c.either-2.new.nodes in
    let ds = g.met.N.Nodes.diagram c.args.nodes.now in
    let dt = g.met.N.Nodes.diagram c.either.new.nodes in
    let du = g.met.N.Nodes.diagram c.either-2.new.nodes in
    let work : List Function = union_work v w in
    let can0 = c.in_ok-can0.can0 in
    let can1 = c.in_ok-can1.can1 in
    let made : Built work (HasFunction (disjunction v.zero w.zero)) s t (Ok can0) = or_built work v.zero w.zero s t c.args.a.can0 c.args.b.can0 (Ok can0) (0, omega arith, refl) mv.zero mw.zero c.in_ok-can0.ensures in
    let av = Rails-keep s t v c.args.a ds dt made.spends.keeps mv in
    let bw = Rails-keep s t w c.args.b ds dt made.spends.keeps mw in
    let next : Built work (HasFunction (disjunction v.one w.one)) t u (Ok can1) = or_built work v.one w.one t u c.args.a.can1 c.args.b.can1 (Ok can1) (1, omega arith, refl) av.one bw.one c.in_ok-can1.ensures in
    let rails : Rails = record { can0 = can0; can1 = can1 } in
    Built-made work (HasSet (union v w)) s u rails (more work (HasFunction (disjunction v.one w.one)) s t u (Ok can1) dt du (first work (HasFunction (disjunction v.zero w.zero)) s t (Ok can0) made) next)
    (record { zero = Means-keeps t u (disjunction v.zero w.zero) can0 dt du next.spends.keeps made.ok; one = next.ok })
