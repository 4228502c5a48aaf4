use Rattle.std.proofs.Common.{List, Ok, Err}
use Rattle.ste_base.specs.Functions.{Function}
use Rattle.dd_nodes.specs.declared.node.Ref.{Ref}
use Rattle.dd_nodes.specs.Stores.{Store, IsRef}
use Rattle.dd_nodes.proofs.Stores.{Means-keeps}
use Rattle.dd_nodes.proofs.Walks.{IsFrom-grows}
use Rattle.net_core.specs.Work.{conjunction, negation}
use Rattle.dual_rail.specs.Rail.{HasFunction}
use Rattle.dual_rail.proofs.Works.{Built-wider, So-start, first, last, more, or_built, pass}
use Rattle.ste_model.specs.Work.{only_one, only_zero, refutes}
use Rattle.engine_parts.specs.Refuting.{both_except_work, opposite_except_work, refutes_work}
use Rattle.engine_parts.proofs.Opposites.{high_in, low_in, refutes_in, refuted_one_left, refuted_zero_left}
use Rattle.engine_parts.proofs.refuting.refuted_either.Goals as goal

pub returns-in_err-low : goal.returns-in_err-low
returns-in_err-low g c = λ w x mw mx.
    let s : Store = g.N.Nodes.store c.args.nodes.now in
    let t : Store = g.N.Nodes.store c.refuted_one.new.nodes in
    let work : List Function = refutes_work w x in
    let low : Function = conjunction x (only_zero w) in
    let fault = c.in_err-low.field-0.0 in
    pass work (HasFunction low) (HasFunction (refutes w x)) s s t fault c.from_residual.result (g.met.N.Nodes.diagram c.args.nodes.now) (g.met.N.Nodes.diagram c.refuted_one.new.nodes) (So-start work s)
    (Built-wider work (both_except_work x w.zero w.one) (HasFunction low) s t (Err fault) (low_in w x) (c.in_err-low.ensures x w.zero w.one mx mw.zero mw.one)) c.from_residual.ensures.1

pub returns-in_err-high : goal.returns-in_err-high
returns-in_err-high g c = λ w x mw mx.
    let s : Store = g.N.Nodes.store c.args.nodes.now in
    let t : Store = g.N.Nodes.store c.refuted_one.new.nodes in
    let u : Store = g.N.Nodes.store c.refuted_zero.new.nodes in
    let gs = g.met.N.Nodes.diagram c.args.nodes.now in
    let gt = g.met.N.Nodes.diagram c.refuted_one.new.nodes in
    let work : List Function = refutes_work w x in
    let low : Function = conjunction x (only_zero w) in
    let high : Function = conjunction (negation x) (only_one w) in
    let r = c.in_ok-low.low in
    let a = Built-wider work (both_except_work x w.zero w.one) (HasFunction low) s t (Ok r) (low_in w x) (c.in_ok-low.ensures x w.zero w.one mx mw.zero mw.one) in
    let k = a.spends.keeps in
    let fault = c.in_err-high.field-0.0 in
    pass work (HasFunction high) (HasFunction (refutes w x)) s t u fault c.from_residual-in_err-high.result gt (g.met.N.Nodes.diagram c.refuted_zero.new.nodes) (first work (HasFunction low) s t (Ok r) a)
    (Built-wider work (opposite_except_work x w.one w.zero) (HasFunction high) t u (Err fault) (high_in w x)
    (c.in_err-high.ensures x w.one w.zero (Means-keeps s t x c.args.value gs gt k mx) (Means-keeps s t w.one c.args.r.can1 gs gt k mw.one) (Means-keeps s t w.zero c.args.r.can0 gs gt k mw.zero))) c.from_residual-in_err-high.ensures.1

pub returns : goal.returns
returns g c = λ w x mw mx.
    let s : Store = g.N.Nodes.store c.args.nodes.now in
    let t : Store = g.N.Nodes.store c.refuted_one.new.nodes in
    let u : Store = g.N.Nodes.store c.refuted_zero.new.nodes in
    let v : Store = g.N.Nodes.store c.either.new.nodes in
    let gs = g.met.N.Nodes.diagram c.args.nodes.now in
    let gt = g.met.N.Nodes.diagram c.refuted_one.new.nodes in
    let gu = g.met.N.Nodes.diagram c.refuted_zero.new.nodes in
    let work : List Function = refutes_work w x in
    let low : Function = conjunction x (only_zero w) in
    let high : Function = conjunction (negation x) (only_one w) in
    let r = c.in_ok-low.low in
    let q = c.in_ok-high.high in
    let a = Built-wider work (both_except_work x w.zero w.one) (HasFunction low) s t (Ok r) (low_in w x) (c.in_ok-low.ensures x w.zero w.one mx mw.zero mw.one) in
    let k = a.spends.keeps in
    let b = Built-wider work (opposite_except_work x w.one w.zero) (HasFunction high) t u (Ok q) (high_in w x)
    (c.in_ok-high.ensures x w.one w.zero (Means-keeps s t x c.args.value gs gt k mx) (Means-keeps s t w.one c.args.r.can1 gs gt k mw.one) (Means-keeps s t w.zero c.args.r.can0 gs gt k mw.zero)) in
    last work (HasFunction (refutes w x)) s u v c.either.result gu (g.met.N.Nodes.diagram c.either.new.nodes) (more work (HasFunction high) s t u (Ok q) gt gu (first work (HasFunction low) s t (Ok r) a) b)
    (or_built work low high u v r q c.either.result (refutes_in w x) (Means-keeps t u low r gt gu b.spends.keeps a.ok) b.ok c.either.ensures)

pub refuted_zero-requires-clause-value : goal.refuted_zero-requires-clause-value
refuted_zero-requires-clause-value g c =
    let s : Store = g.N.Nodes.store c.args.nodes.now in
    let t : Store = g.N.Nodes.store c.refuted_one.new.nodes in
    let a = refuted_one_left s t c.args.value c.args.r.can0 c.args.r.can1 (Ok c.in_ok-low.low) c.requires.value c.requires.rails.zero c.requires.rails.one c.in_ok-low.ensures in
    IsFrom-grows s.held t.held 0 c.args.value a.spends.keeps.grows c.requires.value

pub refuted_zero-requires-clause-one : goal.refuted_zero-requires-clause-one
refuted_zero-requires-clause-one g c =
    let s : Store = g.N.Nodes.store c.args.nodes.now in
    let t : Store = g.N.Nodes.store c.refuted_one.new.nodes in
    let a = refuted_one_left s t c.args.value c.args.r.can0 c.args.r.can1 (Ok c.in_ok-low.low) c.requires.value c.requires.rails.zero c.requires.rails.one c.in_ok-low.ensures in
    IsFrom-grows s.held t.held 0 c.args.r.can1 a.spends.keeps.grows c.requires.rails.one

pub refuted_zero-requires-clause-other : goal.refuted_zero-requires-clause-other
refuted_zero-requires-clause-other g c =
    let s : Store = g.N.Nodes.store c.args.nodes.now in
    let t : Store = g.N.Nodes.store c.refuted_one.new.nodes in
    let a = refuted_one_left s t c.args.value c.args.r.can0 c.args.r.can1 (Ok c.in_ok-low.low) c.requires.value c.requires.rails.zero c.requires.rails.one c.in_ok-low.ensures in
    IsFrom-grows s.held t.held 0 c.args.r.can0 a.spends.keeps.grows c.requires.rails.zero

pub either-requires-clause-left : goal.either-requires-clause-left
either-requires-clause-left g c =
    let s : Store = g.N.Nodes.store c.args.nodes.now in
    let t : Store = g.N.Nodes.store c.refuted_one.new.nodes in
    let a = refuted_one_left s t c.args.value c.args.r.can0 c.args.r.can1 (Ok c.in_ok-low.low) c.requires.value c.requires.rails.zero c.requires.rails.one c.in_ok-low.ensures in
    let u : Store = g.N.Nodes.store c.refuted_zero.new.nodes in
    let grown = λ (r : Ref) (h : IsRef s r). IsFrom-grows s.held t.held 0 r a.spends.keeps.grows h in
    let b = refuted_zero_left t u c.args.value c.args.r.can1 c.args.r.can0 (Ok c.in_ok-high.high) (grown c.args.value c.requires.value) (grown c.args.r.can1 c.requires.rails.one) (grown c.args.r.can0 c.requires.rails.zero) c.in_ok-high.ensures in
    IsFrom-grows t.held u.held 0 c.in_ok-low.low b.spends.keeps.grows a.ok.ref

pub either-requires-clause-right : goal.either-requires-clause-right
either-requires-clause-right g c =
    let s : Store = g.N.Nodes.store c.args.nodes.now in
    let t : Store = g.N.Nodes.store c.refuted_one.new.nodes in
    let a = refuted_one_left s t c.args.value c.args.r.can0 c.args.r.can1 (Ok c.in_ok-low.low) c.requires.value c.requires.rails.zero c.requires.rails.one c.in_ok-low.ensures in
    let u : Store = g.N.Nodes.store c.refuted_zero.new.nodes in
    let grown = λ (r : Ref) (h : IsRef s r). IsFrom-grows s.held t.held 0 r a.spends.keeps.grows h in
    let b = refuted_zero_left t u c.args.value c.args.r.can1 c.args.r.can0 (Ok c.in_ok-high.high) (grown c.args.value c.requires.value) (grown c.args.r.can1 c.requires.rails.one) (grown c.args.r.can0 c.requires.rails.zero) c.in_ok-high.ensures in
    b.ok.ref
