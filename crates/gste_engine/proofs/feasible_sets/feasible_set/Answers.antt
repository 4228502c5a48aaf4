use Rattle.std.proofs.Common.{◌∷◌, [], List, refl, arith, Ok, Err}
use Rattle.ste_base.specs.Functions.{Function}
use Rattle.dd_nodes.specs.Stores.{Store}
use Rattle.dd_nodes.proofs.Stores.{Means-keeps}
use Rattle.net_core.specs.Work.{conjunction}
use Rattle.ste_model.specs.GraphWork.{gated_set, sets_functions}
use Rattle.dual_rail.specs.declared.rails.Rails.{Rails}
use Rattle.dual_rail.specs.Rail.{Built, HasFunction, HasSet}
use Rattle.dual_rail.proofs.Works.{Built-made, So-start, and_built, first, more, pass}
use Rattle.gste_engine.proofs.feasible_sets.feasible_set.Goals as goal

pub returns-in_err-can0 : goal.returns-in_err-can0
returns-in_err-can0 g c = λ w f mw mf.
    let s : Store = g.N.Nodes.store c.args.nodes.now in
    let t : Store = g.N.Nodes.store c.both.new.nodes in
    let work : List Function = sets_functions (gated_set w f ∷ []) in
    pass work (HasFunction (conjunction w.zero f)) (HasSet (gated_set w f)) s s t c.in_err-can0.field-0.0 c.from_residual.result (g.met.N.Nodes.diagram c.args.nodes.now) (g.met.N.Nodes.diagram c.both.new.nodes) (So-start work s)
    (and_built work w.zero f s t c.args.r.can0 c.args.gate (Err c.in_err-can0.field-0.0) (0, omega arith, refl) mw.zero mf c.in_err-can0.ensures) c.from_residual.ensures.1

pub returns-in_err-can1 : goal.returns-in_err-can1
returns-in_err-can1 g c = λ w f mw mf.
    let s : Store = g.N.Nodes.store c.args.nodes.now in
    let t : Store = g.N.Nodes.store c.both.new.nodes in
    let u : Store = g.N.Nodes.store c.both-2.new.nodes in
    let gs = g.met.N.Nodes.diagram c.args.nodes.now in
    let gt = g.met.N.Nodes.diagram c.both.new.nodes in
    let work : List Function = sets_functions (gated_set w f ∷ []) in
    let made : Built work (HasFunction (conjunction w.zero f)) s t (Ok c.in_ok-can0.can0) = and_built work w.zero f s t c.args.r.can0 c.args.gate (Ok c.in_ok-can0.can0) (0, omega arith, refl) mw.zero mf c.in_ok-can0.ensures in
    pass work (HasFunction (conjunction w.one f)) (HasSet (gated_set w f)) s t u c.in_err-can1.field-0.0 c.from_residual-in_err-can1.result gt (g.met.N.Nodes.diagram c.both-2.new.nodes) (first work (HasFunction (conjunction w.zero f)) s t (Ok c.in_ok-can0.can0) made)
    (and_built work w.one f t u c.args.r.can1 c.args.gate (Err c.in_err-can1.field-0.0) (1, omega arith, refl) (Means-keeps s t w.one c.args.r.can1 gs gt made.spends.keeps mw.one) (Means-keeps s t f c.args.gate gs gt made.spends.keeps mf) c.in_err-can1.ensures) c.from_residual-in_err-can1.ensures.1

pub returns : goal.returns
returns g c = λ w f mw mf.
    let s : Store = g.N.Nodes.store c.args.nodes.now in
    let t : Store = g.N.Nodes.store c.both.new.nodes in
    let u : Store = g.N.Nodes.store c.both-2.new.nodes in
    let gs = g.met.N.Nodes.diagram c.args.nodes.now in
    let gt = g.met.N.Nodes.diagram c.both.new.nodes in
    let gu = g.met.N.Nodes.diagram c.both-2.new.nodes in
    let work : List Function = sets_functions (gated_set w f ∷ []) in
    let can0 = c.in_ok-can0.can0 in
    let can1 = c.in_ok-can1.can1 in
    let made : Built work (HasFunction (conjunction w.zero f)) s t (Ok can0) = and_built work w.zero f s t c.args.r.can0 c.args.gate (Ok can0) (0, omega arith, refl) mw.zero mf c.in_ok-can0.ensures in
    let next : Built work (HasFunction (conjunction w.one f)) t u (Ok can1) = and_built work w.one f t u c.args.r.can1 c.args.gate (Ok can1) (1, omega arith, refl) (Means-keeps s t w.one c.args.r.can1 gs gt made.spends.keeps mw.one) (Means-keeps s t f c.args.gate gs gt made.spends.keeps mf) c.in_ok-can1.ensures in
    let rails : Rails = record { can0 = can0; can1 = can1 } in
    Built-made work (HasSet (gated_set w f)) s u rails (more work (HasFunction (conjunction w.one f)) s t u (Ok can1) gt gu (first work (HasFunction (conjunction w.zero f)) s t (Ok can0) made) next)
    (record { zero = Means-keeps t u (conjunction w.zero f) can0 gt gu next.spends.keeps made.ok; one = next.ok })
