use Rattle.std.proofs.Common.{List, [], ◌∷◌, ◌∙◌, Ok, Err, refl, arith, sym, eqb-true}
use Rattle.ste_base.specs.Functions.{Function}
use Rattle.dd_nodes.specs.Stores.{Store}
use Rattle.dd_nodes.proofs.Stores.{Means-keeps}
use Rattle.dual_rail.specs.declared.rails.Rails.{Rails}
use Rattle.dual_rail.specs.Rail.{Built, HasFunction, HasSet}
use Rattle.dual_rail.proofs.Works.{So-start, Built-made, first, more, pass}
use Rattle.net_core.specs.Work.{factor}
use Rattle.gate_sets.specs.private.Refused.{agree, differ, other_factor}
use Rattle.gate_sets.proofs.Known.{chosen, difference_built, opposed, opposed_back, passed}
use Rattle.gate_sets.proofs.gates.exclusive.Goals as goal

pub returns-then-eq : goal.returns-then-eq
returns-then-eq g c = λ v w mv mw.
    let s : Store = g.N.Nodes.store c.args.nodes.now in
    let ds = g.met.N.Nodes.diagram c.args.nodes.now in
    chosen s c.args.x c.args.y v w c.factor-test.result c.other-refused.result c.factor-admitted.result ds (eqb-true _ _ (sym c.eq.ensures ∙ c.if-eq.true))
    (c.factor-test.ensures.means s v mv) (c.factor-admitted.ensures.means s w mw) (c.other-refused.ensures.means s w ds mw)

pub returns-then-eq-2 : goal.returns-then-eq-2
returns-then-eq-2 g c = λ v w mv mw.
    let s : Store = g.N.Nodes.store c.args.nodes.now in
    let ds = g.met.N.Nodes.diagram c.args.nodes.now in
    passed s c.args.x c.args.y v w c.factor-test.result c.other-refused.result c.factor-admitted.result ds (eqb-true _ _ (sym c.eq-2.ensures ∙ c.if-eq-2.true))
    (c.factor-test.ensures.means s v mv) (c.factor-admitted.ensures.means s w mw) (c.other-refused.ensures.means s w ds mw)

pub returns-in_err-can1 : goal.returns-in_err-can1
returns-in_err-can1 g c = λ v w mv mw.
    let s : Store = g.N.Nodes.store c.args.nodes.now in
    let t : Store = g.N.Nodes.store c.xor.new.nodes in
    let ds = g.met.N.Nodes.diagram c.args.nodes.now in
    let dt = g.met.N.Nodes.diagram c.xor.new.nodes in
    let f : Function = factor c.args.x v in
    let h : Function = factor c.args.y w in
    let k : Function = other_factor c.args.y w in
    let one : Function = differ c.args.x c.args.y v w in
    let zero : Function = agree c.args.x c.args.y v w in
    let work : List Function = one ∷ zero ∷ [] in
    let mf = c.factor-test.ensures.means s v mv in
    let mh = c.factor-admitted.ensures.means s w mw in
    let mk = c.other-refused.ensures.means s w ds mw in
    let fault = c.in_err-can1.field-0.0 in
    pass work (HasFunction one) (HasSet (record { zero = zero; one = one })) s s t fault c.from_residual.result ds dt (So-start work s)
    (difference_built work f h k s t c.factor-test.result c.other-refused.result (Err fault) (0, omega arith, refl) (opposed s c.args.y w c.args.b mw c.requires.known) mf mk c.in_err-can1.ensures)
    c.from_residual.ensures.1

pub returns-in_err-can0 : goal.returns-in_err-can0
returns-in_err-can0 g c = λ v w mv mw.
    let s : Store = g.N.Nodes.store c.args.nodes.now in
    let t : Store = g.N.Nodes.store c.xor.new.nodes in
    let ds = g.met.N.Nodes.diagram c.args.nodes.now in
    let dt = g.met.N.Nodes.diagram c.xor.new.nodes in
    let f : Function = factor c.args.x v in
    let h : Function = factor c.args.y w in
    let k : Function = other_factor c.args.y w in
    let one : Function = differ c.args.x c.args.y v w in
    let zero : Function = agree c.args.x c.args.y v w in
    let work : List Function = one ∷ zero ∷ [] in
    let mf = c.factor-test.ensures.means s v mv in
    let mh = c.factor-admitted.ensures.means s w mw in
    let mk = c.other-refused.ensures.means s w ds mw in
    let u : Store = g.N.Nodes.store c.xor-2.new.nodes in
    let du = g.met.N.Nodes.diagram c.xor-2.new.nodes in
    let can1 = c.in_ok-can1.can1 in
    let a : Built work (HasFunction one) s t (Ok can1) = difference_built work f h k s t c.factor-test.result c.other-refused.result (Ok can1) (0, omega arith, refl) (opposed s c.args.y w c.args.b mw c.requires.known) mf mk c.in_ok-can1.ensures in
    let kept = a.spends.keeps in
    let nf = Means-keeps s t f c.factor-test.result ds dt kept mf in
    let nh = Means-keeps s t h c.factor-admitted.result ds dt kept mh in
    let fault = c.in_err-can0.field-0.0 in
    pass work (HasFunction zero) (HasSet (record { zero = zero; one = one })) s t u fault c.from_residual-in_err-can0.result dt du (first work (HasFunction one) s t (Ok can1) a)
    (difference_built work f k h t u c.factor-test.result c.factor-admitted.result (Err fault) (1, omega arith, refl) (λ bits l. opposed_back s c.args.y w c.args.b mw c.requires.known bits (l ∙ kept.vars)) nf nh c.in_err-can0.ensures)
    c.from_residual-in_err-can0.ensures.1

pub returns : goal.returns
returns g c = λ v w mv mw.
    let s : Store = g.N.Nodes.store c.args.nodes.now in
    let t : Store = g.N.Nodes.store c.xor.new.nodes in
    let ds = g.met.N.Nodes.diagram c.args.nodes.now in
    let dt = g.met.N.Nodes.diagram c.xor.new.nodes in
    let f : Function = factor c.args.x v in
    let h : Function = factor c.args.y w in
    let k : Function = other_factor c.args.y w in
    let one : Function = differ c.args.x c.args.y v w in
    let zero : Function = agree c.args.x c.args.y v w in
    let work : List Function = one ∷ zero ∷ [] in
    let mf = c.factor-test.ensures.means s v mv in
    let mh = c.factor-admitted.ensures.means s w mw in
    let mk = c.other-refused.ensures.means s w ds mw in
    let u : Store = g.N.Nodes.store c.xor-2.new.nodes in
    let du = g.met.N.Nodes.diagram c.xor-2.new.nodes in
    let can1 = c.in_ok-can1.can1 in
    let a : Built work (HasFunction one) s t (Ok can1) = difference_built work f h k s t c.factor-test.result c.other-refused.result (Ok can1) (0, omega arith, refl) (opposed s c.args.y w c.args.b mw c.requires.known) mf mk c.in_ok-can1.ensures in
    let kept = a.spends.keeps in
    let nf = Means-keeps s t f c.factor-test.result ds dt kept mf in
    let nh = Means-keeps s t h c.factor-admitted.result ds dt kept mh in
    let can0 = c.in_ok-can0.can0 in
    let rails : Rails = record { can0 = can0; can1 = can1 } in
    let b : Built work (HasFunction zero) t u (Ok can0) = difference_built work f k h t u c.factor-test.result c.factor-admitted.result (Ok can0) (1, omega arith, refl) (λ bits l. opposed_back s c.args.y w c.args.b mw c.requires.known bits (l ∙ kept.vars)) nf nh c.in_ok-can0.ensures in
    Built-made work (HasSet (record { zero = zero; one = one })) s u rails (more work (HasFunction zero) s t u (Ok can0) dt du (first work (HasFunction one) s t (Ok can1) a) b)
    (record { zero = b.ok; one = Means-keeps t u one can1 dt du b.spends.keeps a.ok })
