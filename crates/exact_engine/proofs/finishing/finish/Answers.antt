use Rattle.std.proofs.Common.{◌≡◌, ◌≤◌, ◌-◌, ℕ, List, sym, subst, arith, refl, Ok, Err}
use Rattle.dd_nodes.specs.declared.node.Ref.{Ref}
use Rattle.ste_base.specs.Functions.{Function}
use Rattle.dd_nodes.specs.Stores.{Store, Keeps, Means, function}
use Rattle.dd_nodes.proofs.Spending.{own}
use Rattle.dd_nodes.proofs.Stores.{Keeps-trans, Means-keeps}
use Rattle.net_core.specs.Work.{negation}
use Rattle.dual_rail.specs.Rail.{Built, HasFunction}
use Rattle.dual_rail.proofs.Works.{So-start, Built-made, and_built, first, more, not_built, pass}
use Rattle.exact_model.specs.ExactWork.{some_choices}
use Rattle.exact_engine.specs.private.Finishing.{AreResults, counter_of, finish_work}
use Rattle.exact_engine.proofs.Chosen.{some_built}
use Rattle.exact_engine.proofs.finishing.finish.Goals as goal

pub returns-in_err-met : goal.returns-in_err-met
returns-in_err-met g c = λ a b ma mb.
    let s : Store = g.N.Nodes.store c.args.nodes.now in
    let t : Store = g.N.Nodes.store c.opposite.new.nodes in
    let ds = g.met.N.Nodes.diagram c.args.nodes.now in
    let dt = g.met.N.Nodes.diagram c.opposite.new.nodes in
    let v = c.args.vars in
    let w : ℕ = s.vars - v in
    let le : v ≤ s.vars = c.requires.vars in
    let work : List Function = finish_work v w a b in
    let f : Function = negation a in
    let h : Function = counter_of a b in
    let Good = AreResults v w a b in
    let fault = c.in_err-met.field-0.0 in
    pass work (HasFunction f) Good s s t fault c.from_residual.result ds dt (So-start work s)
    (not_built work a s t c.args.broken.ant (Err fault) (0, omega arith, refl) ma c.in_err-met.ensures)
    c.from_residual.ensures.1

pub returns-in_err-counter : goal.returns-in_err-counter
returns-in_err-counter g c = λ a b ma mb.
    let s : Store = g.N.Nodes.store c.args.nodes.now in
    let t : Store = g.N.Nodes.store c.opposite.new.nodes in
    let ds = g.met.N.Nodes.diagram c.args.nodes.now in
    let dt = g.met.N.Nodes.diagram c.opposite.new.nodes in
    let v = c.args.vars in
    let w : ℕ = s.vars - v in
    let le : v ≤ s.vars = c.requires.vars in
    let work : List Function = finish_work v w a b in
    let f : Function = negation a in
    let h : Function = counter_of a b in
    let Good = AreResults v w a b in
    let r1 : Ref = c.in_ok-met.met in
    let x1 : Built work (HasFunction f) s t (Ok r1) = not_built work a s t c.args.broken.ant (Ok r1) (0, omega arith, refl) ma c.in_ok-met.ensures in
    let so1 = first work (HasFunction f) s t (Ok r1) x1 in
    let u : Store = g.N.Nodes.store c.both.new.nodes in
    let du = g.met.N.Nodes.diagram c.both.new.nodes in
    let mb1 : Means t b c.args.broken.con = Means-keeps s t b c.args.broken.con ds dt so1.keeps mb in
    let fault = c.in_err-counter.field-0.0 in
    pass work (HasFunction h) Good s t u fault c.from_residual-in_err-counter.result dt du so1
    (and_built work f b t u r1 c.args.broken.con (Err fault) (1, omega arith, refl) x1.ok mb1 c.in_err-counter.ensures)
    c.from_residual-in_err-counter.ensures.1

pub returns-in_err-strong : goal.returns-in_err-strong
returns-in_err-strong g c = λ a b ma mb.
    let s : Store = g.N.Nodes.store c.args.nodes.now in
    let t : Store = g.N.Nodes.store c.opposite.new.nodes in
    let ds = g.met.N.Nodes.diagram c.args.nodes.now in
    let dt = g.met.N.Nodes.diagram c.opposite.new.nodes in
    let v = c.args.vars in
    let w : ℕ = s.vars - v in
    let le : v ≤ s.vars = c.requires.vars in
    let work : List Function = finish_work v w a b in
    let f : Function = negation a in
    let h : Function = counter_of a b in
    let Good = AreResults v w a b in
    let r1 : Ref = c.in_ok-met.met in
    let x1 : Built work (HasFunction f) s t (Ok r1) = not_built work a s t c.args.broken.ant (Ok r1) (0, omega arith, refl) ma c.in_ok-met.ensures in
    let so1 = first work (HasFunction f) s t (Ok r1) x1 in
    let u : Store = g.N.Nodes.store c.both.new.nodes in
    let du = g.met.N.Nodes.diagram c.both.new.nodes in
    let mb1 : Means t b c.args.broken.con = Means-keeps s t b c.args.broken.con ds dt so1.keeps mb in
    let r2 : Ref = c.in_ok-counter.counter in
    let x2 : Built work (HasFunction h) t u (Ok r2) = and_built work f b t u r1 c.args.broken.con (Ok r2) (1, omega arith, refl) x1.ok mb1 c.in_ok-counter.ensures in
    let so2 = more work (HasFunction h) s t u (Ok r2) dt du so1 x2 in
    let m1u : Means u f r1 = Means-keeps t u f r1 dt du x2.spends.keeps x1.ok in
    let vu : u.vars ≡ s.vars = so2.keeps.vars in
    let leu : v ≤ u.vars = subst (λ (k : ℕ). v ≤ k) (sym vu) le in
    let z : Store = g.N.Nodes.store c.some_choices.new.nodes in
    let dz = g.met.N.Nodes.diagram c.some_choices.new.nodes in
    let fault = c.in_err-strong.field-0.0 in
    pass work (HasFunction (some_choices v w h)) Good s u z fault c.from_residual-in_err-strong.result du dz so2
    (some_built work s.vars v h u z r2 (Err fault) leu vu (2, omega arith, refl) x2.ok c.in_err-strong.ensures)
    c.from_residual-in_err-strong.ensures.1

pub returns-in_err-allowed : goal.returns-in_err-allowed
returns-in_err-allowed g c = λ a b ma mb.
    let s : Store = g.N.Nodes.store c.args.nodes.now in
    let t : Store = g.N.Nodes.store c.opposite.new.nodes in
    let ds = g.met.N.Nodes.diagram c.args.nodes.now in
    let dt = g.met.N.Nodes.diagram c.opposite.new.nodes in
    let v = c.args.vars in
    let w : ℕ = s.vars - v in
    let le : v ≤ s.vars = c.requires.vars in
    let work : List Function = finish_work v w a b in
    let f : Function = negation a in
    let h : Function = counter_of a b in
    let Good = AreResults v w a b in
    let r1 : Ref = c.in_ok-met.met in
    let x1 : Built work (HasFunction f) s t (Ok r1) = not_built work a s t c.args.broken.ant (Ok r1) (0, omega arith, refl) ma c.in_ok-met.ensures in
    let so1 = first work (HasFunction f) s t (Ok r1) x1 in
    let u : Store = g.N.Nodes.store c.both.new.nodes in
    let du = g.met.N.Nodes.diagram c.both.new.nodes in
    let mb1 : Means t b c.args.broken.con = Means-keeps s t b c.args.broken.con ds dt so1.keeps mb in
    let r2 : Ref = c.in_ok-counter.counter in
    let x2 : Built work (HasFunction h) t u (Ok r2) = and_built work f b t u r1 c.args.broken.con (Ok r2) (1, omega arith, refl) x1.ok mb1 c.in_ok-counter.ensures in
    let so2 = more work (HasFunction h) s t u (Ok r2) dt du so1 x2 in
    let m1u : Means u f r1 = Means-keeps t u f r1 dt du x2.spends.keeps x1.ok in
    let vu : u.vars ≡ s.vars = so2.keeps.vars in
    let leu : v ≤ u.vars = subst (λ (k : ℕ). v ≤ k) (sym vu) le in
    let z : Store = g.N.Nodes.store c.some_choices.new.nodes in
    let dz = g.met.N.Nodes.diagram c.some_choices.new.nodes in
    let r3 : Ref = c.in_ok-strong.strong in
    let x3 : Built work (HasFunction (some_choices v w h)) u z (Ok r3) = some_built work s.vars v h u z r2 (Ok r3) leu vu (2, omega arith, refl) x2.ok c.in_ok-strong.ensures in
    let so3 = more work (HasFunction (some_choices v w h)) s u z (Ok r3) du dz so2 x3 in
    let m1z : Means z f r1 = Means-keeps u z f r1 du dz x3.spends.keeps m1u in
    let vz : z.vars ≡ s.vars = so3.keeps.vars in
    let lez : v ≤ z.vars = subst (λ (k : ℕ). v ≤ k) (sym vz) le in
    let y : Store = g.N.Nodes.store c.some_choices-2.new.nodes in
    let dy = g.met.N.Nodes.diagram c.some_choices-2.new.nodes in
    let fault = c.in_err-allowed.field-0.0 in
    pass work (HasFunction (some_choices v w f)) Good s z y fault c.from_residual-in_err-allowed.result dz dy so3
    (some_built work s.vars v f z y r1 (Err fault) lez vz (3, omega arith, refl) m1z c.in_err-allowed.ensures)
    c.from_residual-in_err-allowed.ensures.1

pub returns-in_err-contradictory : goal.returns-in_err-contradictory
returns-in_err-contradictory g c = λ a b ma mb.
    let s : Store = g.N.Nodes.store c.args.nodes.now in
    let t : Store = g.N.Nodes.store c.opposite.new.nodes in
    let ds = g.met.N.Nodes.diagram c.args.nodes.now in
    let dt = g.met.N.Nodes.diagram c.opposite.new.nodes in
    let v = c.args.vars in
    let w : ℕ = s.vars - v in
    let le : v ≤ s.vars = c.requires.vars in
    let work : List Function = finish_work v w a b in
    let f : Function = negation a in
    let h : Function = counter_of a b in
    let Good = AreResults v w a b in
    let r1 : Ref = c.in_ok-met.met in
    let x1 : Built work (HasFunction f) s t (Ok r1) = not_built work a s t c.args.broken.ant (Ok r1) (0, omega arith, refl) ma c.in_ok-met.ensures in
    let so1 = first work (HasFunction f) s t (Ok r1) x1 in
    let u : Store = g.N.Nodes.store c.both.new.nodes in
    let du = g.met.N.Nodes.diagram c.both.new.nodes in
    let mb1 : Means t b c.args.broken.con = Means-keeps s t b c.args.broken.con ds dt so1.keeps mb in
    let r2 : Ref = c.in_ok-counter.counter in
    let x2 : Built work (HasFunction h) t u (Ok r2) = and_built work f b t u r1 c.args.broken.con (Ok r2) (1, omega arith, refl) x1.ok mb1 c.in_ok-counter.ensures in
    let so2 = more work (HasFunction h) s t u (Ok r2) dt du so1 x2 in
    let m1u : Means u f r1 = Means-keeps t u f r1 dt du x2.spends.keeps x1.ok in
    let vu : u.vars ≡ s.vars = so2.keeps.vars in
    let leu : v ≤ u.vars = subst (λ (k : ℕ). v ≤ k) (sym vu) le in
    let z : Store = g.N.Nodes.store c.some_choices.new.nodes in
    let dz = g.met.N.Nodes.diagram c.some_choices.new.nodes in
    let r3 : Ref = c.in_ok-strong.strong in
    let x3 : Built work (HasFunction (some_choices v w h)) u z (Ok r3) = some_built work s.vars v h u z r2 (Ok r3) leu vu (2, omega arith, refl) x2.ok c.in_ok-strong.ensures in
    let so3 = more work (HasFunction (some_choices v w h)) s u z (Ok r3) du dz so2 x3 in
    let m1z : Means z f r1 = Means-keeps u z f r1 du dz x3.spends.keeps m1u in
    let vz : z.vars ≡ s.vars = so3.keeps.vars in
    let lez : v ≤ z.vars = subst (λ (k : ℕ). v ≤ k) (sym vz) le in
    let y : Store = g.N.Nodes.store c.some_choices-2.new.nodes in
    let dy = g.met.N.Nodes.diagram c.some_choices-2.new.nodes in
    let r4 : Ref = c.in_ok-allowed.allowed in
    let x4 : Built work (HasFunction (some_choices v w f)) z y (Ok r4) = some_built work s.vars v f z y r1 (Ok r4) lez vz (3, omega arith, refl) m1z c.in_ok-allowed.ensures in
    let so4 = more work (HasFunction (some_choices v w f)) s z y (Ok r4) dz dy so3 x4 in
    let q : Store = g.N.Nodes.store c.opposite-2.new.nodes in
    let dq = g.met.N.Nodes.diagram c.opposite-2.new.nodes in
    let fault = c.in_err-contradictory.field-0.0 in
    pass work (HasFunction (negation (some_choices v w f))) Good s y q fault c.from_residual-in_err-contradictory.result dy dq so4
    (not_built work (some_choices v w f) y q r4 (Err fault) (4, omega arith, refl) x4.ok c.in_err-contradictory.ensures)
    c.from_residual-in_err-contradictory.ensures.1

pub returns : goal.returns
returns g c = λ a b ma mb.
    let s : Store = g.N.Nodes.store c.args.nodes.now in
    let t : Store = g.N.Nodes.store c.opposite.new.nodes in
    let ds = g.met.N.Nodes.diagram c.args.nodes.now in
    let dt = g.met.N.Nodes.diagram c.opposite.new.nodes in
    let v = c.args.vars in
    let w : ℕ = s.vars - v in
    let le : v ≤ s.vars = c.requires.vars in
    let work : List Function = finish_work v w a b in
    let f : Function = negation a in
    let h : Function = counter_of a b in
    let Good = AreResults v w a b in
    let r1 : Ref = c.in_ok-met.met in
    let x1 : Built work (HasFunction f) s t (Ok r1) = not_built work a s t c.args.broken.ant (Ok r1) (0, omega arith, refl) ma c.in_ok-met.ensures in
    let so1 = first work (HasFunction f) s t (Ok r1) x1 in
    let u : Store = g.N.Nodes.store c.both.new.nodes in
    let du = g.met.N.Nodes.diagram c.both.new.nodes in
    let mb1 : Means t b c.args.broken.con = Means-keeps s t b c.args.broken.con ds dt so1.keeps mb in
    let r2 : Ref = c.in_ok-counter.counter in
    let x2 : Built work (HasFunction h) t u (Ok r2) = and_built work f b t u r1 c.args.broken.con (Ok r2) (1, omega arith, refl) x1.ok mb1 c.in_ok-counter.ensures in
    let so2 = more work (HasFunction h) s t u (Ok r2) dt du so1 x2 in
    let m1u : Means u f r1 = Means-keeps t u f r1 dt du x2.spends.keeps x1.ok in
    let vu : u.vars ≡ s.vars = so2.keeps.vars in
    let leu : v ≤ u.vars = subst (λ (k : ℕ). v ≤ k) (sym vu) le in
    let z : Store = g.N.Nodes.store c.some_choices.new.nodes in
    let dz = g.met.N.Nodes.diagram c.some_choices.new.nodes in
    let r3 : Ref = c.in_ok-strong.strong in
    let x3 : Built work (HasFunction (some_choices v w h)) u z (Ok r3) = some_built work s.vars v h u z r2 (Ok r3) leu vu (2, omega arith, refl) x2.ok c.in_ok-strong.ensures in
    let so3 = more work (HasFunction (some_choices v w h)) s u z (Ok r3) du dz so2 x3 in
    let m1z : Means z f r1 = Means-keeps u z f r1 du dz x3.spends.keeps m1u in
    let vz : z.vars ≡ s.vars = so3.keeps.vars in
    let lez : v ≤ z.vars = subst (λ (k : ℕ). v ≤ k) (sym vz) le in
    let y : Store = g.N.Nodes.store c.some_choices-2.new.nodes in
    let dy = g.met.N.Nodes.diagram c.some_choices-2.new.nodes in
    let r4 : Ref = c.in_ok-allowed.allowed in
    let x4 : Built work (HasFunction (some_choices v w f)) z y (Ok r4) = some_built work s.vars v f z y r1 (Ok r4) lez vz (3, omega arith, refl) m1z c.in_ok-allowed.ensures in
    let so4 = more work (HasFunction (some_choices v w f)) s z y (Ok r4) dz dy so3 x4 in
    let q : Store = g.N.Nodes.store c.opposite-2.new.nodes in
    let dq = g.met.N.Nodes.diagram c.opposite-2.new.nodes in
    let r5 : Ref = c.in_ok-contradictory.contradictory in
    let x5 : Built work (HasFunction (negation (some_choices v w f))) y q (Ok r5) = not_built work (some_choices v w f) y q r4 (Ok r5) (4, omega arith, refl) x4.ok c.in_ok-contradictory.ensures in
    let so5 = more work (HasFunction (negation (some_choices v w f))) s y q (Ok r5) dy dq so4 x5 in
    let k_uq : Keeps u q = Keeps-trans u z q x3.spends.keeps (Keeps-trans z y q x4.spends.keeps x5.spends.keeps) in
    let k_zq : Keeps z q = Keeps-trans z y q x4.spends.keeps x5.spends.keeps in
    Built-made work Good s q (record { counter = r2; strong = r3; contradictory = r5 }) so5
    (record { counter = Means-keeps u q h r2 du dq k_uq x2.ok; strong = Means-keeps z q (some_choices v w h) r3 dz dq k_zq x3.ok; contradictory = x5.ok })

pub both-requires-clause-left : goal.both-requires-clause-left
both-requires-clause-left g c =
    let a : Function = function (g.N.Nodes.store c.args.nodes.now) c.args.broken.ant in
    let b : Function = function (g.N.Nodes.store c.args.nodes.now) c.args.broken.con in
    let ma = own (g.N.Nodes.store c.args.nodes.now) c.args.broken.ant c.requires.ant in
    let mb = own (g.N.Nodes.store c.args.nodes.now) c.args.broken.con c.requires.con in
    let s : Store = g.N.Nodes.store c.args.nodes.now in
    let t : Store = g.N.Nodes.store c.opposite.new.nodes in
    let ds = g.met.N.Nodes.diagram c.args.nodes.now in
    let dt = g.met.N.Nodes.diagram c.opposite.new.nodes in
    let v = c.args.vars in
    let w : ℕ = s.vars - v in
    let le : v ≤ s.vars = c.requires.vars in
    let work : List Function = finish_work v w a b in
    let f : Function = negation a in
    let h : Function = counter_of a b in
    let Good = AreResults v w a b in
    let r1 : Ref = c.in_ok-met.met in
    let x1 : Built work (HasFunction f) s t (Ok r1) = not_built work a s t c.args.broken.ant (Ok r1) (0, omega arith, refl) ma c.in_ok-met.ensures in
    let so1 = first work (HasFunction f) s t (Ok r1) x1 in
    let mb1 : Means t b c.args.broken.con = Means-keeps s t b c.args.broken.con ds dt so1.keeps mb in
    x1.ok.ref

pub both-requires-clause-right : goal.both-requires-clause-right
both-requires-clause-right g c =
    let a : Function = function (g.N.Nodes.store c.args.nodes.now) c.args.broken.ant in
    let b : Function = function (g.N.Nodes.store c.args.nodes.now) c.args.broken.con in
    let ma = own (g.N.Nodes.store c.args.nodes.now) c.args.broken.ant c.requires.ant in
    let mb = own (g.N.Nodes.store c.args.nodes.now) c.args.broken.con c.requires.con in
    let s : Store = g.N.Nodes.store c.args.nodes.now in
    let t : Store = g.N.Nodes.store c.opposite.new.nodes in
    let ds = g.met.N.Nodes.diagram c.args.nodes.now in
    let dt = g.met.N.Nodes.diagram c.opposite.new.nodes in
    let v = c.args.vars in
    let w : ℕ = s.vars - v in
    let le : v ≤ s.vars = c.requires.vars in
    let work : List Function = finish_work v w a b in
    let f : Function = negation a in
    let h : Function = counter_of a b in
    let Good = AreResults v w a b in
    let r1 : Ref = c.in_ok-met.met in
    let x1 : Built work (HasFunction f) s t (Ok r1) = not_built work a s t c.args.broken.ant (Ok r1) (0, omega arith, refl) ma c.in_ok-met.ensures in
    let so1 = first work (HasFunction f) s t (Ok r1) x1 in
    let mb1 : Means t b c.args.broken.con = Means-keeps s t b c.args.broken.con ds dt so1.keeps mb in
    mb1.ref

pub some_choices-requires-clause-held : goal.some_choices-requires-clause-held
some_choices-requires-clause-held g c =
    let a : Function = function (g.N.Nodes.store c.args.nodes.now) c.args.broken.ant in
    let b : Function = function (g.N.Nodes.store c.args.nodes.now) c.args.broken.con in
    let ma = own (g.N.Nodes.store c.args.nodes.now) c.args.broken.ant c.requires.ant in
    let mb = own (g.N.Nodes.store c.args.nodes.now) c.args.broken.con c.requires.con in
    let s : Store = g.N.Nodes.store c.args.nodes.now in
    let t : Store = g.N.Nodes.store c.opposite.new.nodes in
    let ds = g.met.N.Nodes.diagram c.args.nodes.now in
    let dt = g.met.N.Nodes.diagram c.opposite.new.nodes in
    let v = c.args.vars in
    let w : ℕ = s.vars - v in
    let le : v ≤ s.vars = c.requires.vars in
    let work : List Function = finish_work v w a b in
    let f : Function = negation a in
    let h : Function = counter_of a b in
    let Good = AreResults v w a b in
    let r1 : Ref = c.in_ok-met.met in
    let x1 : Built work (HasFunction f) s t (Ok r1) = not_built work a s t c.args.broken.ant (Ok r1) (0, omega arith, refl) ma c.in_ok-met.ensures in
    let so1 = first work (HasFunction f) s t (Ok r1) x1 in
    let u : Store = g.N.Nodes.store c.both.new.nodes in
    let du = g.met.N.Nodes.diagram c.both.new.nodes in
    let mb1 : Means t b c.args.broken.con = Means-keeps s t b c.args.broken.con ds dt so1.keeps mb in
    let r2 : Ref = c.in_ok-counter.counter in
    let x2 : Built work (HasFunction h) t u (Ok r2) = and_built work f b t u r1 c.args.broken.con (Ok r2) (1, omega arith, refl) x1.ok mb1 c.in_ok-counter.ensures in
    let so2 = more work (HasFunction h) s t u (Ok r2) dt du so1 x2 in
    let m1u : Means u f r1 = Means-keeps t u f r1 dt du x2.spends.keeps x1.ok in
    let vu : u.vars ≡ s.vars = so2.keeps.vars in
    let leu : v ≤ u.vars = subst (λ (k : ℕ). v ≤ k) (sym vu) le in
    x2.ok.ref

pub some_choices-requires-clause-vars : goal.some_choices-requires-clause-vars
some_choices-requires-clause-vars g c =
    let a : Function = function (g.N.Nodes.store c.args.nodes.now) c.args.broken.ant in
    let b : Function = function (g.N.Nodes.store c.args.nodes.now) c.args.broken.con in
    let ma = own (g.N.Nodes.store c.args.nodes.now) c.args.broken.ant c.requires.ant in
    let mb = own (g.N.Nodes.store c.args.nodes.now) c.args.broken.con c.requires.con in
    let s : Store = g.N.Nodes.store c.args.nodes.now in
    let t : Store = g.N.Nodes.store c.opposite.new.nodes in
    let ds = g.met.N.Nodes.diagram c.args.nodes.now in
    let dt = g.met.N.Nodes.diagram c.opposite.new.nodes in
    let v = c.args.vars in
    let w : ℕ = s.vars - v in
    let le : v ≤ s.vars = c.requires.vars in
    let work : List Function = finish_work v w a b in
    let f : Function = negation a in
    let h : Function = counter_of a b in
    let Good = AreResults v w a b in
    let r1 : Ref = c.in_ok-met.met in
    let x1 : Built work (HasFunction f) s t (Ok r1) = not_built work a s t c.args.broken.ant (Ok r1) (0, omega arith, refl) ma c.in_ok-met.ensures in
    let so1 = first work (HasFunction f) s t (Ok r1) x1 in
    let u : Store = g.N.Nodes.store c.both.new.nodes in
    let du = g.met.N.Nodes.diagram c.both.new.nodes in
    let mb1 : Means t b c.args.broken.con = Means-keeps s t b c.args.broken.con ds dt so1.keeps mb in
    let r2 : Ref = c.in_ok-counter.counter in
    let x2 : Built work (HasFunction h) t u (Ok r2) = and_built work f b t u r1 c.args.broken.con (Ok r2) (1, omega arith, refl) x1.ok mb1 c.in_ok-counter.ensures in
    let so2 = more work (HasFunction h) s t u (Ok r2) dt du so1 x2 in
    let m1u : Means u f r1 = Means-keeps t u f r1 dt du x2.spends.keeps x1.ok in
    let vu : u.vars ≡ s.vars = so2.keeps.vars in
    let leu : v ≤ u.vars = subst (λ (k : ℕ). v ≤ k) (sym vu) le in
    leu

pub some_choices-requires-2-clause-held : goal.some_choices-requires-2-clause-held
some_choices-requires-2-clause-held g c =
    let a : Function = function (g.N.Nodes.store c.args.nodes.now) c.args.broken.ant in
    let b : Function = function (g.N.Nodes.store c.args.nodes.now) c.args.broken.con in
    let ma = own (g.N.Nodes.store c.args.nodes.now) c.args.broken.ant c.requires.ant in
    let mb = own (g.N.Nodes.store c.args.nodes.now) c.args.broken.con c.requires.con in
    let s : Store = g.N.Nodes.store c.args.nodes.now in
    let t : Store = g.N.Nodes.store c.opposite.new.nodes in
    let ds = g.met.N.Nodes.diagram c.args.nodes.now in
    let dt = g.met.N.Nodes.diagram c.opposite.new.nodes in
    let v = c.args.vars in
    let w : ℕ = s.vars - v in
    let le : v ≤ s.vars = c.requires.vars in
    let work : List Function = finish_work v w a b in
    let f : Function = negation a in
    let h : Function = counter_of a b in
    let Good = AreResults v w a b in
    let r1 : Ref = c.in_ok-met.met in
    let x1 : Built work (HasFunction f) s t (Ok r1) = not_built work a s t c.args.broken.ant (Ok r1) (0, omega arith, refl) ma c.in_ok-met.ensures in
    let so1 = first work (HasFunction f) s t (Ok r1) x1 in
    let u : Store = g.N.Nodes.store c.both.new.nodes in
    let du = g.met.N.Nodes.diagram c.both.new.nodes in
    let mb1 : Means t b c.args.broken.con = Means-keeps s t b c.args.broken.con ds dt so1.keeps mb in
    let r2 : Ref = c.in_ok-counter.counter in
    let x2 : Built work (HasFunction h) t u (Ok r2) = and_built work f b t u r1 c.args.broken.con (Ok r2) (1, omega arith, refl) x1.ok mb1 c.in_ok-counter.ensures in
    let so2 = more work (HasFunction h) s t u (Ok r2) dt du so1 x2 in
    let m1u : Means u f r1 = Means-keeps t u f r1 dt du x2.spends.keeps x1.ok in
    let vu : u.vars ≡ s.vars = so2.keeps.vars in
    let leu : v ≤ u.vars = subst (λ (k : ℕ). v ≤ k) (sym vu) le in
    let z : Store = g.N.Nodes.store c.some_choices.new.nodes in
    let dz = g.met.N.Nodes.diagram c.some_choices.new.nodes in
    let r3 : Ref = c.in_ok-strong.strong in
    let x3 : Built work (HasFunction (some_choices v w h)) u z (Ok r3) = some_built work s.vars v h u z r2 (Ok r3) leu vu (2, omega arith, refl) x2.ok c.in_ok-strong.ensures in
    let so3 = more work (HasFunction (some_choices v w h)) s u z (Ok r3) du dz so2 x3 in
    let m1z : Means z f r1 = Means-keeps u z f r1 du dz x3.spends.keeps m1u in
    let vz : z.vars ≡ s.vars = so3.keeps.vars in
    let lez : v ≤ z.vars = subst (λ (k : ℕ). v ≤ k) (sym vz) le in
    m1z.ref

pub some_choices-requires-2-clause-vars : goal.some_choices-requires-2-clause-vars
some_choices-requires-2-clause-vars g c =
    let a : Function = function (g.N.Nodes.store c.args.nodes.now) c.args.broken.ant in
    let b : Function = function (g.N.Nodes.store c.args.nodes.now) c.args.broken.con in
    let ma = own (g.N.Nodes.store c.args.nodes.now) c.args.broken.ant c.requires.ant in
    let mb = own (g.N.Nodes.store c.args.nodes.now) c.args.broken.con c.requires.con in
    let s : Store = g.N.Nodes.store c.args.nodes.now in
    let t : Store = g.N.Nodes.store c.opposite.new.nodes in
    let ds = g.met.N.Nodes.diagram c.args.nodes.now in
    let dt = g.met.N.Nodes.diagram c.opposite.new.nodes in
    let v = c.args.vars in
    let w : ℕ = s.vars - v in
    let le : v ≤ s.vars = c.requires.vars in
    let work : List Function = finish_work v w a b in
    let f : Function = negation a in
    let h : Function = counter_of a b in
    let Good = AreResults v w a b in
    let r1 : Ref = c.in_ok-met.met in
    let x1 : Built work (HasFunction f) s t (Ok r1) = not_built work a s t c.args.broken.ant (Ok r1) (0, omega arith, refl) ma c.in_ok-met.ensures in
    let so1 = first work (HasFunction f) s t (Ok r1) x1 in
    let u : Store = g.N.Nodes.store c.both.new.nodes in
    let du = g.met.N.Nodes.diagram c.both.new.nodes in
    let mb1 : Means t b c.args.broken.con = Means-keeps s t b c.args.broken.con ds dt so1.keeps mb in
    let r2 : Ref = c.in_ok-counter.counter in
    let x2 : Built work (HasFunction h) t u (Ok r2) = and_built work f b t u r1 c.args.broken.con (Ok r2) (1, omega arith, refl) x1.ok mb1 c.in_ok-counter.ensures in
    let so2 = more work (HasFunction h) s t u (Ok r2) dt du so1 x2 in
    let m1u : Means u f r1 = Means-keeps t u f r1 dt du x2.spends.keeps x1.ok in
    let vu : u.vars ≡ s.vars = so2.keeps.vars in
    let leu : v ≤ u.vars = subst (λ (k : ℕ). v ≤ k) (sym vu) le in
    let z : Store = g.N.Nodes.store c.some_choices.new.nodes in
    let dz = g.met.N.Nodes.diagram c.some_choices.new.nodes in
    let r3 : Ref = c.in_ok-strong.strong in
    let x3 : Built work (HasFunction (some_choices v w h)) u z (Ok r3) = some_built work s.vars v h u z r2 (Ok r3) leu vu (2, omega arith, refl) x2.ok c.in_ok-strong.ensures in
    let so3 = more work (HasFunction (some_choices v w h)) s u z (Ok r3) du dz so2 x3 in
    let m1z : Means z f r1 = Means-keeps u z f r1 du dz x3.spends.keeps m1u in
    let vz : z.vars ≡ s.vars = so3.keeps.vars in
    let lez : v ≤ z.vars = subst (λ (k : ℕ). v ≤ k) (sym vz) le in
    lez

pub opposite-requires-2 : goal.opposite-requires-2
opposite-requires-2 g c =
    let a : Function = function (g.N.Nodes.store c.args.nodes.now) c.args.broken.ant in
    let b : Function = function (g.N.Nodes.store c.args.nodes.now) c.args.broken.con in
    let ma = own (g.N.Nodes.store c.args.nodes.now) c.args.broken.ant c.requires.ant in
    let mb = own (g.N.Nodes.store c.args.nodes.now) c.args.broken.con c.requires.con in
    let s : Store = g.N.Nodes.store c.args.nodes.now in
    let t : Store = g.N.Nodes.store c.opposite.new.nodes in
    let ds = g.met.N.Nodes.diagram c.args.nodes.now in
    let dt = g.met.N.Nodes.diagram c.opposite.new.nodes in
    let v = c.args.vars in
    let w : ℕ = s.vars - v in
    let le : v ≤ s.vars = c.requires.vars in
    let work : List Function = finish_work v w a b in
    let f : Function = negation a in
    let h : Function = counter_of a b in
    let Good = AreResults v w a b in
    let r1 : Ref = c.in_ok-met.met in
    let x1 : Built work (HasFunction f) s t (Ok r1) = not_built work a s t c.args.broken.ant (Ok r1) (0, omega arith, refl) ma c.in_ok-met.ensures in
    let so1 = first work (HasFunction f) s t (Ok r1) x1 in
    let u : Store = g.N.Nodes.store c.both.new.nodes in
    let du = g.met.N.Nodes.diagram c.both.new.nodes in
    let mb1 : Means t b c.args.broken.con = Means-keeps s t b c.args.broken.con ds dt so1.keeps mb in
    let r2 : Ref = c.in_ok-counter.counter in
    let x2 : Built work (HasFunction h) t u (Ok r2) = and_built work f b t u r1 c.args.broken.con (Ok r2) (1, omega arith, refl) x1.ok mb1 c.in_ok-counter.ensures in
    let so2 = more work (HasFunction h) s t u (Ok r2) dt du so1 x2 in
    let m1u : Means u f r1 = Means-keeps t u f r1 dt du x2.spends.keeps x1.ok in
    let vu : u.vars ≡ s.vars = so2.keeps.vars in
    let leu : v ≤ u.vars = subst (λ (k : ℕ). v ≤ k) (sym vu) le in
    let z : Store = g.N.Nodes.store c.some_choices.new.nodes in
    let dz = g.met.N.Nodes.diagram c.some_choices.new.nodes in
    let r3 : Ref = c.in_ok-strong.strong in
    let x3 : Built work (HasFunction (some_choices v w h)) u z (Ok r3) = some_built work s.vars v h u z r2 (Ok r3) leu vu (2, omega arith, refl) x2.ok c.in_ok-strong.ensures in
    let so3 = more work (HasFunction (some_choices v w h)) s u z (Ok r3) du dz so2 x3 in
    let m1z : Means z f r1 = Means-keeps u z f r1 du dz x3.spends.keeps m1u in
    let vz : z.vars ≡ s.vars = so3.keeps.vars in
    let lez : v ≤ z.vars = subst (λ (k : ℕ). v ≤ k) (sym vz) le in
    let y : Store = g.N.Nodes.store c.some_choices-2.new.nodes in
    let dy = g.met.N.Nodes.diagram c.some_choices-2.new.nodes in
    let r4 : Ref = c.in_ok-allowed.allowed in
    let x4 : Built work (HasFunction (some_choices v w f)) z y (Ok r4) = some_built work s.vars v f z y r1 (Ok r4) lez vz (3, omega arith, refl) m1z c.in_ok-allowed.ensures in
    let so4 = more work (HasFunction (some_choices v w f)) s z y (Ok r4) dz dy so3 x4 in
    x4.ok.ref
