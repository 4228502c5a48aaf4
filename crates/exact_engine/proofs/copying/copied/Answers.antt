use Rattle.std.proofs.Common.{◌≡◌, ◌∷◌, [], zero, suc, List, Ok, Err, refl, sym, ◌∙◌, ap, subst, arith}
use Rattle.dd_nodes.specs.declared.node.Ref.{Ref}
use Rattle.ste_base.specs.Functions.{Function}
use Rattle.dd_nodes.specs.Stores.{IsRef, Store, function}
use Rattle.dd_nodes.proofs.Stores.{Means-keeps}
use Rattle.dual_rail.specs.Rail.{Built, HasFunction}
use Rattle.dual_rail.proofs.Works.{Built-made, Built-wider, So-start, Within, first, more, pass}
use Rattle.exact_engine.specs.private.Copying.{AreCopied, AreCopies}
use Rattle.exact_engine.proofs.copying.copied.Goals as goal

in_first : (f h : Function) → Within (f ∷ []) (f ∷ h ∷ [])
in_first f h k (zero, lt, e) = (zero, omega arith, e)
in_first f h k (suc n, lt, e) = absurd (omega arith)

in_second : (f h : Function) → Within (h ∷ []) (f ∷ h ∷ [])
in_second f h k (zero, lt, e) = (suc zero, omega arith, e)
in_second f h k (suc n, lt, e) = absurd (omega arith)

pub returns-in_err-strong-clause-built : goal.returns-in_err-strong-clause-built
returns-in_err-strong-clause-built g c =
    let o : Store = g.M.Nodes.store c.args.source.now in
    let s : Store = g.N.Nodes.store c.args.nodes.now in
    let ds = g.met.N.Nodes.diagram c.args.nodes.now in
    let f : Function = function o c.args.r.strong in
    let h : Function = function o c.args.r.contradictory in
    let work : List Function = f ∷ h ∷ [] in
    let t : Store = g.N.Nodes.store c.copy_of.new.nodes in
    let dt = g.met.N.Nodes.diagram c.copy_of.new.nodes in
    let fault = c.in_err-strong.field-0.0 in
    pass work (HasFunction f) (AreCopies o c.args.r) s s t fault c.from_residual.result ds dt (So-start work s)
    (Built-wider work (f ∷ []) (HasFunction f) s t (Err fault) (in_first f h) c.in_err-strong.ensures.built) c.from_residual.ensures.1

pub copy_of-requires-2-clause-held : goal.copy_of-requires-2-clause-held
copy_of-requires-2-clause-held g c = subst (λ (x : Store). IsRef x c.args.r.contradictory) (sym c.in_ok-strong.ensures.source) c.requires.refs.contradictory

pub copy_of-requires-2-clause-vars : goal.copy_of-requires-2-clause-vars
copy_of-requires-2-clause-vars g c = ap (λ (x : Store). x.vars) c.in_ok-strong.ensures.source ∙ c.requires.vars ∙ sym c.in_ok-strong.ensures.built.spends.keeps.vars

pub copy_of-requires-2-clause-met : goal.copy_of-requires-2-clause-met
copy_of-requires-2-clause-met g c =
    let o : Store = g.M.Nodes.store c.args.source.now in
    let s : Store = g.N.Nodes.store c.args.nodes.now in
    let ds = g.met.N.Nodes.diagram c.args.nodes.now in
    let f : Function = function o c.args.r.strong in
    let h : Function = function o c.args.r.contradictory in
    let work : List Function = f ∷ h ∷ [] in
    let t : Store = g.N.Nodes.store c.copy_of.new.nodes in
    let dt = g.met.N.Nodes.diagram c.copy_of.new.nodes in
    subst (λ (x : Store). AreCopied x t c.copy_of.new.met) (sym c.in_ok-strong.ensures.source) c.in_ok-strong.ensures.met

pub returns-in_err-contradictory-clause-built : goal.returns-in_err-contradictory-clause-built
returns-in_err-contradictory-clause-built g c =
    let o : Store = g.M.Nodes.store c.args.source.now in
    let s : Store = g.N.Nodes.store c.args.nodes.now in
    let ds = g.met.N.Nodes.diagram c.args.nodes.now in
    let f : Function = function o c.args.r.strong in
    let h : Function = function o c.args.r.contradictory in
    let work : List Function = f ∷ h ∷ [] in
    let t : Store = g.N.Nodes.store c.copy_of.new.nodes in
    let dt = g.met.N.Nodes.diagram c.copy_of.new.nodes in
    let strong : Ref = c.in_ok-strong.strong in
    let a : Built work (HasFunction f) s t (Ok strong) = Built-wider work (f ∷ []) (HasFunction f) s t (Ok strong) (in_first f h) c.in_ok-strong.ensures.built in
    let so1 = first work (HasFunction f) s t (Ok strong) a in
    let o1 : Store = g.M.Nodes.store c.copy_of.new.source in
    let same : o1 ≡ o = c.in_ok-strong.ensures.source in
    let u : Store = g.N.Nodes.store c.copy_of-2.new.nodes in
    let du = g.met.N.Nodes.diagram c.copy_of-2.new.nodes in
    let fault = c.in_err-contradictory.field-0.0 in
    pass work (HasFunction h) (AreCopies o c.args.r) s t u fault c.from_residual-in_err-contradictory.result dt du so1
    (Built-wider work (h ∷ []) (HasFunction h) t u (Err fault) (in_second f h)
    (subst (λ (x : Store). Built (function x c.args.r.contradictory ∷ []) (HasFunction (function x c.args.r.contradictory)) t u (Err fault)) same c.in_err-contradictory.ensures.built))
    c.from_residual-in_err-contradictory.ensures.1

pub returns-clause-built : goal.returns-clause-built
returns-clause-built g c =
    let o : Store = g.M.Nodes.store c.args.source.now in
    let s : Store = g.N.Nodes.store c.args.nodes.now in
    let ds = g.met.N.Nodes.diagram c.args.nodes.now in
    let f : Function = function o c.args.r.strong in
    let h : Function = function o c.args.r.contradictory in
    let work : List Function = f ∷ h ∷ [] in
    let t : Store = g.N.Nodes.store c.copy_of.new.nodes in
    let dt = g.met.N.Nodes.diagram c.copy_of.new.nodes in
    let strong : Ref = c.in_ok-strong.strong in
    let a : Built work (HasFunction f) s t (Ok strong) = Built-wider work (f ∷ []) (HasFunction f) s t (Ok strong) (in_first f h) c.in_ok-strong.ensures.built in
    let so1 = first work (HasFunction f) s t (Ok strong) a in
    let o1 : Store = g.M.Nodes.store c.copy_of.new.source in
    let same : o1 ≡ o = c.in_ok-strong.ensures.source in
    let u : Store = g.N.Nodes.store c.copy_of-2.new.nodes in
    let du = g.met.N.Nodes.diagram c.copy_of-2.new.nodes in
    let contradictory : Ref = c.in_ok-contradictory.contradictory in
    let b : Built work (HasFunction h) t u (Ok contradictory) = Built-wider work (h ∷ []) (HasFunction h) t u (Ok contradictory) (in_second f h)
    (subst (λ (x : Store). Built (function x c.args.r.contradictory ∷ []) (HasFunction (function x c.args.r.contradictory)) t u (Ok contradictory)) same c.in_ok-contradictory.ensures.built) in
    Built-made work (AreCopies o c.args.r) s u (record { strong = strong; weak = record { 0 = 0 }; contradictory = contradictory }) (more work (HasFunction h) s t u (Ok contradictory) dt du so1 b)
    (record { strong = Means-keeps t u f strong dt du b.spends.keeps a.ok; weak = refl; contradictory = b.ok })
