use Rattle.std.proofs.Common.{List, Ok, Err}
use Rattle.ste_base.specs.Functions.{Function}
use Rattle.dd_nodes.specs.Stores.{Keeps, Store}
use Rattle.net_core.specs.Work.{cut_set, cut_work}
use Rattle.dual_rail.specs.declared.rails.Rails.{Rails}
use Rattle.dual_rail.specs.Rail.{Built, HasFunction, HasSet}
use Rattle.dual_rail.proofs.Works.{So-start, Built-made, first, more, pass}
use Rattle.dd_nodes.proofs.Stores.{Means-keeps}
use Rattle.dd_nodes.proofs.Walks.{IsFrom-grows}
use Rattle.dual_rail.proofs.Turns.{cut_zero, cut_one, without_grows}
use Rattle.dual_rail.proofs.sets.cut.Goals as goal

pub returns-in_err-can0 : goal.returns-in_err-can0
returns-in_err-can0 g c = λ w gd x mw mg mx.
    let s : Store = g.N.Nodes.store c.args.nodes.now in
    let t : Store = g.N.Nodes.store c.without.new.nodes in
    let work : List Function = cut_work w gd x in
    let fault = c.in_err-can0.field-0.0 in
    pass work (HasFunction (cut_set w gd x).zero) (HasSet (cut_set w gd x)) s s t fault c.from_residual.result (g.met.N.Nodes.diagram c.args.nodes.now) (g.met.N.Nodes.diagram c.without.new.nodes) (So-start work s)
    (cut_zero w gd x s t (Err fault) (c.in_err-can0.ensures w.zero gd x mw.zero mg mx)) c.from_residual.ensures.1

pub returns-in_err-can1 : goal.returns-in_err-can1
returns-in_err-can1 g c = λ w gd x mw mg mx.
    let s : Store = g.N.Nodes.store c.args.nodes.now in
    let t : Store = g.N.Nodes.store c.without.new.nodes in
    let u : Store = g.N.Nodes.store c.without_opposite.new.nodes in
    let ds = g.met.N.Nodes.diagram c.args.nodes.now in
    let dt = g.met.N.Nodes.diagram c.without.new.nodes in
    let work : List Function = cut_work w gd x in
    let can0 = c.in_ok-can0.can0 in
    let a : Built work (HasFunction (cut_set w gd x).zero) s t (Ok can0) = cut_zero w gd x s t (Ok can0) (c.in_ok-can0.ensures w.zero gd x mw.zero mg mx) in
    let k = a.spends.keeps in
    let fault = c.in_err-can1.field-0.0 in
    pass work (HasFunction (cut_set w gd x).one) (HasSet (cut_set w gd x)) s t u fault c.from_residual-in_err-can1.result dt (g.met.N.Nodes.diagram c.without_opposite.new.nodes) (first work (HasFunction (cut_set w gd x).zero) s t (Ok can0) a)
    (cut_one w gd x t u (Err fault) (c.in_err-can1.ensures w.one gd x (Means-keeps s t w.one c.args.r.can1 ds dt k mw.one) (Means-keeps s t gd c.args.guard ds dt k mg) (Means-keeps s t x c.args.value ds dt k mx)))
    c.from_residual-in_err-can1.ensures.1

pub returns : goal.returns
returns g c = λ w gd x mw mg mx.
    let s : Store = g.N.Nodes.store c.args.nodes.now in
    let t : Store = g.N.Nodes.store c.without.new.nodes in
    let u : Store = g.N.Nodes.store c.without_opposite.new.nodes in
    let ds = g.met.N.Nodes.diagram c.args.nodes.now in
    let dt = g.met.N.Nodes.diagram c.without.new.nodes in
    let du = g.met.N.Nodes.diagram c.without_opposite.new.nodes in
    let work : List Function = cut_work w gd x in
    let can0 = c.in_ok-can0.can0 in
    let can1 = c.in_ok-can1.can1 in
    let rails : Rails = record { can0 = can0; can1 = can1 } in
    let a : Built work (HasFunction (cut_set w gd x).zero) s t (Ok can0) = cut_zero w gd x s t (Ok can0) (c.in_ok-can0.ensures w.zero gd x mw.zero mg mx) in
    let k = a.spends.keeps in
    let b : Built work (HasFunction (cut_set w gd x).one) t u (Ok can1) = cut_one w gd x t u (Ok can1) (c.in_ok-can1.ensures w.one gd x (Means-keeps s t w.one c.args.r.can1 ds dt k mw.one) (Means-keeps s t gd c.args.guard ds dt k mg) (Means-keeps s t x c.args.value ds dt k mx)) in
    Built-made work (HasSet (cut_set w gd x)) s u rails (more work (HasFunction (cut_set w gd x).one) s t u (Ok can1) dt du (first work (HasFunction (cut_set w gd x).zero) s t (Ok can0) a) b)
    (record { zero = Means-keeps t u (cut_set w gd x).zero can0 dt du b.spends.keeps a.ok; one = b.ok })

pub without_opposite-requires-clause-rail : goal.without_opposite-requires-clause-rail
without_opposite-requires-clause-rail g c =
    let s : Store = g.N.Nodes.store c.args.nodes.now in
    let t : Store = g.N.Nodes.store c.without.new.nodes in
    let k : Keeps s t = without_grows s t c.args.r.can0 c.args.guard c.args.value (Ok c.in_ok-can0.can0) c.requires.rails.zero c.requires.guard c.requires.value c.in_ok-can0.ensures in
    IsFrom-grows s.held t.held 0 c.args.r.can1 k.grows c.requires.rails.one

pub without_opposite-requires-clause-guard : goal.without_opposite-requires-clause-guard
without_opposite-requires-clause-guard g c =
    let s : Store = g.N.Nodes.store c.args.nodes.now in
    let t : Store = g.N.Nodes.store c.without.new.nodes in
    let k : Keeps s t = without_grows s t c.args.r.can0 c.args.guard c.args.value (Ok c.in_ok-can0.can0) c.requires.rails.zero c.requires.guard c.requires.value c.in_ok-can0.ensures in
    IsFrom-grows s.held t.held 0 c.args.guard k.grows c.requires.guard

pub without_opposite-requires-clause-value : goal.without_opposite-requires-clause-value
without_opposite-requires-clause-value g c =
    let s : Store = g.N.Nodes.store c.args.nodes.now in
    let t : Store = g.N.Nodes.store c.without.new.nodes in
    let k : Keeps s t = without_grows s t c.args.r.can0 c.args.guard c.args.value (Ok c.in_ok-can0.can0) c.requires.rails.zero c.requires.guard c.requires.value c.in_ok-can0.ensures in
    IsFrom-grows s.held t.held 0 c.args.value k.grows c.requires.value
