use Rattle.std.proofs.Common.{List, refl, arith, Ok, Err}
use Rattle.ste_base.specs.Functions.{Function}
use Rattle.dd_nodes.specs.Stores.{Store, function}
use Rattle.dd_nodes.proofs.Spending.{own}
use Rattle.dd_nodes.proofs.Stores.{Means-keeps}
use Rattle.dd_nodes.proofs.Walks.{IsFrom-grows}
use Rattle.net_core.specs.Work.{negation}
use Rattle.dual_rail.specs.Rail.{Built, HasFunction}
use Rattle.dual_rail.proofs.Turns.{within_two}
use Rattle.dual_rail.proofs.Works.{Built-made, Built-wider, So-start, first, more, not_built, pass}
use Rattle.engine_parts.specs.Refuting.{except, except_work}
use Rattle.gste_engine.specs.private.EdgeFinds.{AreEndings, ending_work}
use Rattle.gste_engine.proofs.judged.ending.Goals as goal

pub returns-in_err-weak : goal.returns-in_err-weak
returns-in_err-weak g c = λ f h e m.
    let s : Store = g.N.Nodes.store c.args.nodes.now in
    let t : Store = g.N.Nodes.store c.but_not.new.nodes in
    let work : List Function = ending_work f h e in
    let fault = c.in_err-weak.field-0.0 in
    pass work (HasFunction (except h f)) (AreEndings f h e) s s t fault c.from_residual.result (g.met.N.Nodes.diagram c.args.nodes.now) (g.met.N.Nodes.diagram c.but_not.new.nodes) (So-start work s)
    (Built-wider work (except_work h f) (HasFunction (except h f)) s t (Err fault) (within_two (negation f) (except h f) work (0, omega arith, refl) (1, omega arith, refl)) (c.in_err-weak.ensures h f m.weak m.strong)) c.from_residual.ensures.1

pub returns-in_err-contradictory : goal.returns-in_err-contradictory
returns-in_err-contradictory g c = λ f h e m.
    let s : Store = g.N.Nodes.store c.args.nodes.now in
    let t : Store = g.N.Nodes.store c.but_not.new.nodes in
    let u : Store = g.N.Nodes.store c.not.new.nodes in
    let gs = g.met.N.Nodes.diagram c.args.nodes.now in
    let gt = g.met.N.Nodes.diagram c.but_not.new.nodes in
    let gu = g.met.N.Nodes.diagram c.not.new.nodes in
    let work : List Function = ending_work f h e in
    let r = c.in_ok-weak.weak in
    let a = Built-wider work (except_work h f) (HasFunction (except h f)) s t (Ok r) (within_two (negation f) (except h f) work (0, omega arith, refl) (1, omega arith, refl)) (c.in_ok-weak.ensures h f m.weak m.strong) in
    let fault = c.in_err-contradictory.field-0.0 in
    pass work (HasFunction (negation e)) (AreEndings f h e) s t u fault c.from_residual-in_err-contradictory.result gt gu (first work (HasFunction (except h f)) s t (Ok r) a)
    (not_built work e t u c.args.found.feasible (Err fault) (2, omega arith, refl) (Means-keeps s t e c.args.found.feasible gs gt a.spends.keeps m.feasible) c.in_err-contradictory.ensures) c.from_residual-in_err-contradictory.ensures.1

pub returns : goal.returns
returns g c = λ f h e m.
    let s : Store = g.N.Nodes.store c.args.nodes.now in
    let t : Store = g.N.Nodes.store c.but_not.new.nodes in
    let u : Store = g.N.Nodes.store c.not.new.nodes in
    let gs = g.met.N.Nodes.diagram c.args.nodes.now in
    let gt = g.met.N.Nodes.diagram c.but_not.new.nodes in
    let gu = g.met.N.Nodes.diagram c.not.new.nodes in
    let work : List Function = ending_work f h e in
    let r = c.in_ok-weak.weak in
    let q = c.in_ok-contradictory.contradictory in
    let a = Built-wider work (except_work h f) (HasFunction (except h f)) s t (Ok r) (within_two (negation f) (except h f) work (0, omega arith, refl) (1, omega arith, refl)) (c.in_ok-weak.ensures h f m.weak m.strong) in
    let b : Built work (HasFunction (negation e)) t u (Ok q) = not_built work e t u c.args.found.feasible (Ok q) (2, omega arith, refl) (Means-keeps s t e c.args.found.feasible gs gt a.spends.keeps m.feasible) c.in_ok-contradictory.ensures in
    let so = more work (HasFunction (negation e)) s t u (Ok q) gt gu (first work (HasFunction (except h f)) s t (Ok r) a) b in
    Built-made work (AreEndings f h e) s u (record { strong = c.args.found.strong; weak = r; contradictory = q }) so
    (record { strong = Means-keeps s u f c.args.found.strong gs gu so.keeps m.strong; weak = Means-keeps t u (except h f) r gt gu b.spends.keeps a.ok; contradictory = b.ok })

pub not-requires : goal.not-requires
not-requires g c =
    let s : Store = g.N.Nodes.store c.args.nodes.now in
    let t : Store = g.N.Nodes.store c.but_not.new.nodes in
    let a = c.in_ok-weak.ensures (function s c.args.found.weak) (function s c.args.found.strong) (own s c.args.found.weak c.requires.found.weak) (own s c.args.found.strong c.requires.found.strong) in
    IsFrom-grows s.held t.held 0 c.args.found.feasible a.spends.keeps.grows c.requires.found.feasible
