use Rattle.std.proofs.Common.{List, length, refl, sym, ◌∙◌, ap, subst, arith, All, Ok, Err}
use Rattle.std.specs.List.{AllZip}
use Rattle.ste_base.specs.Functions.{Function}
use Rattle.dd_nodes.specs.Stores.{Store}
use Rattle.dd_nodes.proofs.Stores.{Means-keeps}
use Rattle.net_core.specs.Work.{disjunction}
use Rattle.ste_model.specs.GraphWork.{sets_functions}
use Rattle.dual_rail.specs.declared.rails.Rails.{Rails}
use Rattle.dual_rail.specs.Rail.{AreRails, AreRefs, Built, HasFunction}
use Rattle.dual_rail.proofs.Turns.{All-refs-keep, Zip-keep}
use Rattle.dual_rail.proofs.Works.{Built-made, Built-wider, So-start, behind, first, more, or_built, pass}
use Rattle.gste_engine.specs.declared.state.State.{State}
use Rattle.gste_engine.specs.Tables.{IsState}
use Rattle.gste_engine.specs.private.Sums.{state_functions, unions, with_state}
use Rattle.gste_engine.proofs.sums.with_state.Goals as goal

pub returns-in_err-reached : goal.returns-in_err-reached
returns-in_err-reached g c = λ x y hx hy.
    let s : Store = g.N.Nodes.store c.args.nodes.now in
    let t : Store = g.N.Nodes.store c.either.new.nodes in
    let gs = g.met.N.Nodes.diagram c.args.nodes.now in
    let gt = g.met.N.Nodes.diagram c.either.new.nodes in
    let state : State = c.args.state in
    let other : State = c.args.more.now in
    let work : List Function = state_functions (with_state x y) in
    let Good : Store → State → Type 0 = λ t r. IsState t (with_state x y) r in
    let f : Function = disjunction x.reached y.reached in
    let fault = c.in_err-reached.field-0.0 in
    pass work (HasFunction f) Good s s t fault c.from_residual.result gs gt (So-start work s)
    (or_built work x.reached y.reached s t state.reached other.reached (Err fault) (0, omega arith, refl) hx.reached hy.reached c.in_err-reached.ensures) c.from_residual.ensures.1

pub returns-in_err-latches : goal.returns-in_err-latches
returns-in_err-latches g c = λ x y hx hy.
    let s : Store = g.N.Nodes.store c.args.nodes.now in
    let t : Store = g.N.Nodes.store c.either.new.nodes in
    let gs = g.met.N.Nodes.diagram c.args.nodes.now in
    let gt = g.met.N.Nodes.diagram c.either.new.nodes in
    let state : State = c.args.state in
    let other : State = c.args.more.now in
    let work : List Function = state_functions (with_state x y) in
    let Good : Store → State → Type 0 = λ t r. IsState t (with_state x y) r in
    let f : Function = disjunction x.reached y.reached in
    let reached = c.in_ok-reached.reached in
    let a : Built work (HasFunction f) s t (Ok reached) = or_built work x.reached y.reached s t state.reached other.reached (Ok reached) (0, omega arith, refl) hx.reached hy.reached c.in_ok-reached.ensures in
    let so1 = first work (HasFunction f) s t (Ok reached) a in
    let u : Store = g.N.Nodes.store c.join_all.new.nodes in
    let gu = g.met.N.Nodes.diagram c.join_all.new.nodes in
    let left : AllZip (AreRails t) x.latches state.latches = Zip-keep s t x.latches state.latches gs gt a.spends.keeps hx.latches in
    let right : AllZip (AreRails t) y.latches c.as_slice.result.now = subst (λ (xs : List Rails). AllZip (AreRails t) y.latches xs) (sym c.as_slice.ensures) (Zip-keep s t y.latches other.latches gs gt a.spends.keeps hy.latches) in
    let part : List Function = sets_functions (unions x.latches y.latches) in
    let Latches : Store → List Rails → Type 0 = λ t all. AllZip (AreRails t) (unions x.latches y.latches) all in
    let fault = c.in_err-latches.field-0.0 in
    pass work Latches Good s t u fault c.from_residual-in_err-latches.result gt gu so1
    (Built-wider work part Latches t u (Err fault) (λ h has. behind f part h has) (c.in_err-latches.ensures x.latches y.latches left right)) c.from_residual-in_err-latches.ensures.1

pub returns : goal.returns
returns g c = λ x y hx hy.
    let s : Store = g.N.Nodes.store c.args.nodes.now in
    let t : Store = g.N.Nodes.store c.either.new.nodes in
    let gs = g.met.N.Nodes.diagram c.args.nodes.now in
    let gt = g.met.N.Nodes.diagram c.either.new.nodes in
    let state : State = c.args.state in
    let other : State = c.args.more.now in
    let work : List Function = state_functions (with_state x y) in
    let Good : Store → State → Type 0 = λ t r. IsState t (with_state x y) r in
    let f : Function = disjunction x.reached y.reached in
    let reached = c.in_ok-reached.reached in
    let a : Built work (HasFunction f) s t (Ok reached) = or_built work x.reached y.reached s t state.reached other.reached (Ok reached) (0, omega arith, refl) hx.reached hy.reached c.in_ok-reached.ensures in
    let so1 = first work (HasFunction f) s t (Ok reached) a in
    let u : Store = g.N.Nodes.store c.join_all.new.nodes in
    let gu = g.met.N.Nodes.diagram c.join_all.new.nodes in
    let left : AllZip (AreRails t) x.latches state.latches = Zip-keep s t x.latches state.latches gs gt a.spends.keeps hx.latches in
    let right : AllZip (AreRails t) y.latches c.as_slice.result.now = subst (λ (xs : List Rails). AllZip (AreRails t) y.latches xs) (sym c.as_slice.ensures) (Zip-keep s t y.latches other.latches gs gt a.spends.keeps hy.latches) in
    let part : List Function = sets_functions (unions x.latches y.latches) in
    let Latches : Store → List Rails → Type 0 = λ t all. AllZip (AreRails t) (unions x.latches y.latches) all in
    let latches : List Rails = c.in_ok-latches.latches in
    let b : Built work Latches t u (Ok latches) = Built-wider work part Latches t u (Ok latches) (λ h has. behind f part h has) (c.in_ok-latches.ensures x.latches y.latches left right) in
    Built-made work Good s u (record { reached = reached; latches = latches }) (more work Latches s t u (Ok latches) gt gu so1 b)
    (record { reached = Means-keeps t u f reached gt gu b.spends.keeps a.ok; latches = b.ok })

pub join_all-requires-clause-long : goal.join_all-requires-clause-long
join_all-requires-clause-long g c = c.requires.long ∙ ap (λ (xs : List Rails). length xs) (sym c.as_slice.ensures)

pub join_all-requires-clause-left : goal.join_all-requires-clause-left
join_all-requires-clause-left g c =
    let s : Store = g.N.Nodes.store c.args.nodes.now in
    let t : Store = g.N.Nodes.store c.either.new.nodes in
    let gs = g.met.N.Nodes.diagram c.args.nodes.now in
    let gt = g.met.N.Nodes.diagram c.either.new.nodes in
    let state : State = c.args.state in
    let other : State = c.args.more.now in
    All-refs-keep s t state.latches c.in_ok-reached.ensures.keeps c.requires.latches

pub join_all-requires-clause-right : goal.join_all-requires-clause-right
join_all-requires-clause-right g c =
    let s : Store = g.N.Nodes.store c.args.nodes.now in
    let t : Store = g.N.Nodes.store c.either.new.nodes in
    let gs = g.met.N.Nodes.diagram c.args.nodes.now in
    let gt = g.met.N.Nodes.diagram c.either.new.nodes in
    let state : State = c.args.state in
    let other : State = c.args.more.now in
    subst (λ (xs : List Rails). All (AreRefs t) xs) (sym c.as_slice.ensures) (All-refs-keep s t other.latches c.in_ok-reached.ensures.keeps c.requires.more_latches)
