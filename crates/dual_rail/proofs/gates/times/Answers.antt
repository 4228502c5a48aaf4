use Rattle.std.proofs.Common.{◌∷◌, [], List, refl, sym, ap, subst, arith, Ok, Err}
use Rattle.ste_base.specs.Functions.{Function}
use Rattle.dd_nodes.specs.Stores.{Store}
use Rattle.net_core.specs.Work.{conjunction, factor, some_bit}
use Rattle.dual_rail.specs.Rail.{Built, HasFunction}
use Rattle.dual_rail.proofs.Works.{and_built, or_built, So-start, first, last, pass}
use Rattle.dd_nodes.proofs.Stores.{Means-keeps}
use Rattle.net_core.specs.declared.cover.Lit.{Lit}
use Rattle.dual_rail.proofs.gates.times.Goals as goal

pub returns-in-Zero : goal.returns-in-Zero
returns-in-Zero g c = λ f w mf mw.
    subst (λ (h : Function). Built (some_bit w ∷ conjunction f h ∷ []) (HasFunction (conjunction f h)) (g.N.Nodes.store c.args.nodes.now) (g.N.Nodes.store c.both.new.nodes) c.both.result) (sym (ap (λ (l : Lit). factor l w) c.in-Zero.is))
    (and_built _ f w.zero _ _ _ _ _ (1, omega arith, refl) mf mw.zero c.both.ensures)

pub returns-in-One : goal.returns-in-One
returns-in-One g c = λ f w mf mw.
    subst (λ (h : Function). Built (some_bit w ∷ conjunction f h ∷ []) (HasFunction (conjunction f h)) (g.N.Nodes.store c.args.nodes.now) (g.N.Nodes.store c.both-in-One.new.nodes) c.both-in-One.result) (sym (ap (λ (l : Lit). factor l w) c.in-One.is))
    (and_built _ f w.one _ _ _ _ _ (1, omega arith, refl) mf mw.one c.both-in-One.ensures)

pub returns-in_err-some-in-Any : goal.returns-in_err-some-in-Any
returns-in_err-some-in-Any g c = λ f w mf mw.
    let s : Store = g.N.Nodes.store c.args.nodes.now in
    let t : Store = g.N.Nodes.store c.either.new.nodes in
    let work : List Function = some_bit w ∷ conjunction f (factor c.args.lit w) ∷ [] in
    pass work (HasFunction (some_bit w)) (HasFunction (conjunction f (factor c.args.lit w))) s s t c.in_err-some-in-Any.field-0.0 c.from_residual.result (g.met.N.Nodes.diagram c.args.nodes.now) (g.met.N.Nodes.diagram c.either.new.nodes) (So-start work s)
    (or_built work w.zero w.one s t c.args.r.can0 c.args.r.can1 (Err c.in_err-some-in-Any.field-0.0) (0, omega arith, refl) mw.zero mw.one c.in_err-some-in-Any.ensures) c.from_residual.ensures.1

pub returns-in_ok-some-in-Any : goal.returns-in_ok-some-in-Any
returns-in_ok-some-in-Any g c = λ f w mf mw.
    let s : Store = g.N.Nodes.store c.args.nodes.now in
    let t : Store = g.N.Nodes.store c.either.new.nodes in
    let u : Store = g.N.Nodes.store c.both-in-Any.new.nodes in
    let ds = g.met.N.Nodes.diagram c.args.nodes.now in
    let dt = g.met.N.Nodes.diagram c.either.new.nodes in
    let du = g.met.N.Nodes.diagram c.both-in-Any.new.nodes in
    let work : List Function = some_bit w ∷ conjunction f (some_bit w) ∷ [] in
    let some = c.in_ok-some-in-Any.some in
    let made : Built work (HasFunction (some_bit w)) s t (Ok some) = or_built work w.zero w.one s t c.args.r.can0 c.args.r.can1 (Ok some) (0, omega arith, refl) mw.zero mw.one c.in_ok-some-in-Any.ensures in
    subst (λ (h : Function). Built (some_bit w ∷ conjunction f h ∷ []) (HasFunction (conjunction f h)) s u c.both-in-Any.result) (sym (ap (λ (l : Lit). factor l w) c.in-Any.is))
    (last work (HasFunction (conjunction f (some_bit w))) s t u c.both-in-Any.result dt du (first work (HasFunction (some_bit w)) s t (Ok some) made)
    (and_built work f (some_bit w) t u c.args.all some c.both-in-Any.result (1, omega arith, refl) (Means-keeps s t f c.args.all ds dt made.spends.keeps mf) made.ok c.both-in-Any.ensures))
