use Rattle.std.proofs.Common.{List, refl, arith, Ok, Err}
use Rattle.dd_nodes.specs.declared.node.Ref.{Ref}
use Rattle.ste_base.specs.Functions.{Function}
use Rattle.dd_nodes.specs.Stores.{Store, IsRef, function}
use Rattle.dd_nodes.proofs.Spending.{own}
use Rattle.dd_nodes.proofs.Stores.{Means-keeps}
use Rattle.dd_nodes.proofs.Walks.{IsFrom-grows}
use Rattle.net_core.specs.Work.{negation}
use Rattle.dual_rail.specs.Rail.{HasFunction}
use Rattle.dual_rail.proofs.Turns.{within_two}
use Rattle.dual_rail.proofs.Works.{Built-made, Built-wider, So-start, first, more, pass}
use Rattle.engine_parts.specs.Refuting.{except, except_work}
use Rattle.ste_engine.specs.private.Finds.{AreLast, last_weak, last_work}
use Rattle.ste_engine.proofs.finish.finish.Goals as goal

pub returns-in_err-strong : goal.returns-in_err-strong
returns-in_err-strong g c = λ k f h mk m.
    let s : Store = g.N.Nodes.store c.args.nodes.now in
    let t : Store = g.N.Nodes.store c.but_not.new.nodes in
    let work : List Function = last_work k f h in
    let fault = c.in_err-strong.field-0.0 in
    pass work (HasFunction (except f k)) (AreLast k f h) s s t fault c.from_residual.result (g.met.N.Nodes.diagram c.args.nodes.now) (g.met.N.Nodes.diagram c.but_not.new.nodes) (So-start work s)
    (Built-wider work (except_work f k) (HasFunction (except f k)) s t (Err fault) (within_two (negation k) (except f k) work (0, omega arith, refl) (1, omega arith, refl)) (c.in_err-strong.ensures f k m.strong mk)) c.from_residual.ensures.1

pub returns-in_err-unsure : goal.returns-in_err-unsure
returns-in_err-unsure g c = λ k f h mk m.
    let s : Store = g.N.Nodes.store c.args.nodes.now in
    let t : Store = g.N.Nodes.store c.but_not.new.nodes in
    let u : Store = g.N.Nodes.store c.but_not-2.new.nodes in
    let gs = g.met.N.Nodes.diagram c.args.nodes.now in
    let gt = g.met.N.Nodes.diagram c.but_not.new.nodes in
    let work : List Function = last_work k f h in
    let r = c.in_ok-strong.strong in
    let a = Built-wider work (except_work f k) (HasFunction (except f k)) s t (Ok r) (within_two (negation k) (except f k) work (0, omega arith, refl) (1, omega arith, refl)) (c.in_ok-strong.ensures f k m.strong mk) in
    let keeps = a.spends.keeps in
    let fault = c.in_err-unsure.field-0.0 in
    pass work (HasFunction (except h k)) (AreLast k f h) s t u fault c.from_residual-in_err-unsure.result gt (g.met.N.Nodes.diagram c.but_not-2.new.nodes) (first work (HasFunction (except f k)) s t (Ok r) a)
    (Built-wider work (except_work h k) (HasFunction (except h k)) t u (Err fault) (within_two (negation k) (except h k) work (0, omega arith, refl) (3, omega arith, refl))
    (c.in_err-unsure.ensures h k (Means-keeps s t h c.args.found.weak gs gt keeps m.weak) (Means-keeps s t k c.args.contradictory gs gt keeps mk))) c.from_residual-in_err-unsure.ensures.1

pub returns-in_err-weak : goal.returns-in_err-weak
returns-in_err-weak g c = λ k f h mk m.
    let s : Store = g.N.Nodes.store c.args.nodes.now in
    let t : Store = g.N.Nodes.store c.but_not.new.nodes in
    let u : Store = g.N.Nodes.store c.but_not-2.new.nodes in
    let v : Store = g.N.Nodes.store c.but_not-3.new.nodes in
    let gs = g.met.N.Nodes.diagram c.args.nodes.now in
    let gt = g.met.N.Nodes.diagram c.but_not.new.nodes in
    let gu = g.met.N.Nodes.diagram c.but_not-2.new.nodes in
    let work : List Function = last_work k f h in
    let r = c.in_ok-strong.strong in
    let q = c.in_ok-unsure.unsure in
    let a = Built-wider work (except_work f k) (HasFunction (except f k)) s t (Ok r) (within_two (negation k) (except f k) work (0, omega arith, refl) (1, omega arith, refl)) (c.in_ok-strong.ensures f k m.strong mk) in
    let keeps = a.spends.keeps in
    let b = Built-wider work (except_work h k) (HasFunction (except h k)) t u (Ok q) (within_two (negation k) (except h k) work (0, omega arith, refl) (3, omega arith, refl))
    (c.in_ok-unsure.ensures h k (Means-keeps s t h c.args.found.weak gs gt keeps m.weak) (Means-keeps s t k c.args.contradictory gs gt keeps mk)) in
    let so = more work (HasFunction (except h k)) s t u (Ok q) gt gu (first work (HasFunction (except f k)) s t (Ok r) a) b in
    let fault = c.in_err-weak.field-0.0 in
    pass work (HasFunction (last_weak k f h)) (AreLast k f h) s u v fault c.from_residual-in_err-weak.result gu (g.met.N.Nodes.diagram c.but_not-3.new.nodes) so
    (Built-wider work (except_work (except h k) (except f k)) (HasFunction (last_weak k f h)) u v (Err fault) (within_two (negation (except f k)) (last_weak k f h) work (2, omega arith, refl) (4, omega arith, refl))
    (c.in_err-weak.ensures (except h k) (except f k) b.ok (Means-keeps t u (except f k) r gt gu b.spends.keeps a.ok))) c.from_residual-in_err-weak.ensures.1

pub returns : goal.returns
returns g c = λ k f h mk m.
    let s : Store = g.N.Nodes.store c.args.nodes.now in
    let t : Store = g.N.Nodes.store c.but_not.new.nodes in
    let u : Store = g.N.Nodes.store c.but_not-2.new.nodes in
    let v : Store = g.N.Nodes.store c.but_not-3.new.nodes in
    let gs = g.met.N.Nodes.diagram c.args.nodes.now in
    let gt = g.met.N.Nodes.diagram c.but_not.new.nodes in
    let gu = g.met.N.Nodes.diagram c.but_not-2.new.nodes in
    let gv = g.met.N.Nodes.diagram c.but_not-3.new.nodes in
    let work : List Function = last_work k f h in
    let r = c.in_ok-strong.strong in
    let q = c.in_ok-unsure.unsure in
    let p = c.in_ok-weak.weak in
    let a = Built-wider work (except_work f k) (HasFunction (except f k)) s t (Ok r) (within_two (negation k) (except f k) work (0, omega arith, refl) (1, omega arith, refl)) (c.in_ok-strong.ensures f k m.strong mk) in
    let keeps = a.spends.keeps in
    let b = Built-wider work (except_work h k) (HasFunction (except h k)) t u (Ok q) (within_two (negation k) (except h k) work (0, omega arith, refl) (3, omega arith, refl))
    (c.in_ok-unsure.ensures h k (Means-keeps s t h c.args.found.weak gs gt keeps m.weak) (Means-keeps s t k c.args.contradictory gs gt keeps mk)) in
    let so = more work (HasFunction (except h k)) s t u (Ok q) gt gu (first work (HasFunction (except f k)) s t (Ok r) a) b in
    let mr = Means-keeps t u (except f k) r gt gu b.spends.keeps a.ok in
    let d = Built-wider work (except_work (except h k) (except f k)) (HasFunction (last_weak k f h)) u v (Ok p) (within_two (negation (except f k)) (last_weak k f h) work (2, omega arith, refl) (4, omega arith, refl))
    (c.in_ok-weak.ensures (except h k) (except f k) b.ok mr) in
    let done = more work (HasFunction (last_weak k f h)) s u v (Ok p) gu gv so d in
    Built-made work (AreLast k f h) s v (record { strong = r; weak = p; contradictory = c.args.contradictory }) done
    (record { strong = Means-keeps u v (except f k) r gu gv d.spends.keeps mr; weak = d.ok; contradictory = Means-keeps s v k c.args.contradictory gs gv done.keeps mk })

pub but_not-requires-2-clause-one : goal.but_not-requires-2-clause-one
but_not-requires-2-clause-one g c =
    let s : Store = g.N.Nodes.store c.args.nodes.now in
    let t : Store = g.N.Nodes.store c.but_not.new.nodes in
    let a = c.in_ok-strong.ensures (function s c.args.found.strong) (function s c.args.contradictory) (own s c.args.found.strong c.requires.found.strong) (own s c.args.contradictory c.requires.contradictory) in
    IsFrom-grows s.held t.held 0 c.args.found.weak a.spends.keeps.grows c.requires.found.weak

pub but_not-requires-2-clause-other : goal.but_not-requires-2-clause-other
but_not-requires-2-clause-other g c =
    let s : Store = g.N.Nodes.store c.args.nodes.now in
    let t : Store = g.N.Nodes.store c.but_not.new.nodes in
    let a = c.in_ok-strong.ensures (function s c.args.found.strong) (function s c.args.contradictory) (own s c.args.found.strong c.requires.found.strong) (own s c.args.contradictory c.requires.contradictory) in
    IsFrom-grows s.held t.held 0 c.args.contradictory a.spends.keeps.grows c.requires.contradictory

pub but_not-requires-3-clause-one : goal.but_not-requires-3-clause-one
but_not-requires-3-clause-one g c =
    let s : Store = g.N.Nodes.store c.args.nodes.now in
    let t : Store = g.N.Nodes.store c.but_not.new.nodes in
    let a = c.in_ok-strong.ensures (function s c.args.found.strong) (function s c.args.contradictory) (own s c.args.found.strong c.requires.found.strong) (own s c.args.contradictory c.requires.contradictory) in
    let u : Store = g.N.Nodes.store c.but_not-2.new.nodes in
    let grown = λ (r : Ref) (h : IsRef s r). IsFrom-grows s.held t.held 0 r a.spends.keeps.grows h in
    let b = c.in_ok-unsure.ensures (function t c.args.found.weak) (function t c.args.contradictory) (own t c.args.found.weak (grown c.args.found.weak c.requires.found.weak)) (own t c.args.contradictory (grown c.args.contradictory c.requires.contradictory)) in
    b.ok.ref

pub but_not-requires-3-clause-other : goal.but_not-requires-3-clause-other
but_not-requires-3-clause-other g c =
    let s : Store = g.N.Nodes.store c.args.nodes.now in
    let t : Store = g.N.Nodes.store c.but_not.new.nodes in
    let a = c.in_ok-strong.ensures (function s c.args.found.strong) (function s c.args.contradictory) (own s c.args.found.strong c.requires.found.strong) (own s c.args.contradictory c.requires.contradictory) in
    let u : Store = g.N.Nodes.store c.but_not-2.new.nodes in
    let grown = λ (r : Ref) (h : IsRef s r). IsFrom-grows s.held t.held 0 r a.spends.keeps.grows h in
    let b = c.in_ok-unsure.ensures (function t c.args.found.weak) (function t c.args.contradictory) (own t c.args.found.weak (grown c.args.found.weak c.requires.found.weak)) (own t c.args.contradictory (grown c.args.contradictory c.requires.contradictory)) in
    IsFrom-grows t.held u.held 0 c.in_ok-strong.strong b.spends.keeps.grows a.ok.ref
