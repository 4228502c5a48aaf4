use Rattle.std.proofs.Common.{List, [], ◌∷◌, Ok, Err, refl, arith}
use Rattle.ste_base.specs.Functions.{Function}
use Rattle.dd_nodes.specs.Stores.{Store}
use Rattle.dd_nodes.proofs.Stores.{Means-keeps}
use Rattle.net_core.specs.Work.{conjunction, disjunction, factor}
use Rattle.dual_rail.specs.declared.rails.Rails.{Rails}
use Rattle.dual_rail.specs.Rail.{Built, HasFunction, HasSet}
use Rattle.dual_rail.proofs.Works.{So-start, Built-made, Built-wider, and_built, behind, first, more, pass}
use Rattle.gate_sets.specs.private.Refused.{other_factor}
use Rattle.gate_sets.proofs.NetRefs.{Net-keeps, Net-refs-keep}
use Rattle.gate_sets.proofs.gates.pair.Goals as goal

pub refused_by_pair-requires-clause-first : goal.refused_by_pair-requires-clause-first
refused_by_pair-requires-clause-first g c =
    Net-refs-keep (g.N.Nodes.store c.args.nodes.now) (g.N.Nodes.store c.both.new.nodes) c.args.a (g.met.N.Nodes.diagram c.args.nodes.now) (g.met.N.Nodes.diagram c.both.new.nodes) c.in_ok-can1.ensures.keeps c.requires.first

pub refused_by_pair-requires-clause-second : goal.refused_by_pair-requires-clause-second
refused_by_pair-requires-clause-second g c =
    Net-refs-keep (g.N.Nodes.store c.args.nodes.now) (g.N.Nodes.store c.both.new.nodes) c.args.b (g.met.N.Nodes.diagram c.args.nodes.now) (g.met.N.Nodes.diagram c.both.new.nodes) c.in_ok-can1.ensures.keeps c.requires.second

pub returns-in_err-can1 : goal.returns-in_err-can1
returns-in_err-can1 g c = λ v w mv mw.
    let s : Store = g.N.Nodes.store c.args.nodes.now in
    let t : Store = g.N.Nodes.store c.both.new.nodes in
    let one : Function = conjunction (factor c.args.x v) (factor c.args.y w) in
    let zero : Function = disjunction (other_factor c.args.x v) (other_factor c.args.y w) in
    let work : List Function = one ∷ zero ∷ [] in
    let fault = c.in_err-can1.field-0.0 in
    pass work (HasFunction one) (HasSet (record { zero = zero; one = one })) s s t fault c.from_residual.result (g.met.N.Nodes.diagram c.args.nodes.now) (g.met.N.Nodes.diagram c.both.new.nodes) (So-start work s)
    (and_built work (factor c.args.x v) (factor c.args.y w) s t c.factor.result c.factor-2.result (Err fault) (0, omega arith, refl) (c.factor.ensures.means s v mv) (c.factor-2.ensures.means s w mw) c.in_err-can1.ensures)
    c.from_residual.ensures.1

pub returns-in_err-can0 : goal.returns-in_err-can0
returns-in_err-can0 g c = λ v w mv mw.
    let s : Store = g.N.Nodes.store c.args.nodes.now in
    let t : Store = g.N.Nodes.store c.both.new.nodes in
    let u : Store = g.N.Nodes.store c.refused_by_pair.new.nodes in
    let ds = g.met.N.Nodes.diagram c.args.nodes.now in
    let dt = g.met.N.Nodes.diagram c.both.new.nodes in
    let one : Function = conjunction (factor c.args.x v) (factor c.args.y w) in
    let zero : Function = disjunction (other_factor c.args.x v) (other_factor c.args.y w) in
    let work : List Function = one ∷ zero ∷ [] in
    let a : Built work (HasFunction one) s t (Ok c.in_ok-can1.can1) = and_built work (factor c.args.x v) (factor c.args.y w) s t c.factor.result c.factor-2.result (Ok c.in_ok-can1.can1) (0, omega arith, refl) (c.factor.ensures.means s v mv) (c.factor-2.ensures.means s w mw) c.in_ok-can1.ensures in
    let fault = c.in_err-can0.field-0.0 in
    pass work (HasFunction zero) (HasSet (record { zero = zero; one = one })) s t u fault c.from_residual-in_err-can0.result dt (g.met.N.Nodes.diagram c.refused_by_pair.new.nodes) (first work (HasFunction one) s t (Ok c.in_ok-can1.can1) a)
    (Built-wider work (zero ∷ []) (HasFunction zero) t u (Err fault) (behind one (zero ∷ [])) (c.in_err-can0.ensures v w (Net-keeps s t v c.args.a ds dt a.spends.keeps mv) (Net-keeps s t w c.args.b ds dt a.spends.keeps mw) a.ok))
    c.from_residual-in_err-can0.ensures.1

pub returns : goal.returns
returns g c = λ v w mv mw.
    let s : Store = g.N.Nodes.store c.args.nodes.now in
    let t : Store = g.N.Nodes.store c.both.new.nodes in
    let u : Store = g.N.Nodes.store c.refused_by_pair.new.nodes in
    let ds = g.met.N.Nodes.diagram c.args.nodes.now in
    let dt = g.met.N.Nodes.diagram c.both.new.nodes in
    let du = g.met.N.Nodes.diagram c.refused_by_pair.new.nodes in
    let one : Function = conjunction (factor c.args.x v) (factor c.args.y w) in
    let zero : Function = disjunction (other_factor c.args.x v) (other_factor c.args.y w) in
    let work : List Function = one ∷ zero ∷ [] in
    let can1 = c.in_ok-can1.can1 in
    let can0 = c.in_ok-can0.can0 in
    let rails : Rails = record { can0 = can0; can1 = can1 } in
    let a : Built work (HasFunction one) s t (Ok can1) = and_built work (factor c.args.x v) (factor c.args.y w) s t c.factor.result c.factor-2.result (Ok can1) (0, omega arith, refl) (c.factor.ensures.means s v mv) (c.factor-2.ensures.means s w mw) c.in_ok-can1.ensures in
    let b : Built work (HasFunction zero) t u (Ok can0) = Built-wider work (zero ∷ []) (HasFunction zero) t u (Ok can0) (behind one (zero ∷ [])) (c.in_ok-can0.ensures v w (Net-keeps s t v c.args.a ds dt a.spends.keeps mv) (Net-keeps s t w c.args.b ds dt a.spends.keeps mw) a.ok) in
    Built-made work (HasSet (record { zero = zero; one = one })) s u rails (more work (HasFunction zero) s t u (Ok can0) dt du (first work (HasFunction one) s t (Ok can1) a) b)
    (record { zero = b.ok; one = Means-keeps t u one can1 dt du b.spends.keeps a.ok })
