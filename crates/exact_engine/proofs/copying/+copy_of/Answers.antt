use Rattle.std.specs.Prelude.{if◌then◌else◌}
use Rattle.std.proofs.Common.{◌≡◌, ◌<◌, Bool, ◌∷◌, [], ℕ, true, false, sym, ◌∙◌, ap, subst, arith, Ok, Err, Some}
use Rattle.dd_nodes.specs.declared.node.Ref.{Ref}
use Rattle.dd_nodes.specs.declared.node.Node.{Node}
use Rattle.ste_base.specs.Functions.{Function}
use Rattle.dd_nodes.specs.Stores.{IsRef, Means, Store, function}
use Rattle.dd_nodes.proofs.Stores.{IsGood, Means-keeps}
use Rattle.dual_rail.specs.Rail.{Built, HasFunction}
use Rattle.dual_rail.proofs.Works.{Built-made, So-start, first, lost, pass}
use Rattle.dd_query.proofs.Room.{child_from, child_ref, room, room_falls}
use Rattle.exact_engine.specs.private.Copying.{AreCopied}
use Rattle.exact_engine.proofs.Copied.{constant_copy, copied_keep, copied_more, half_turn, made_turn, part_from, part_of, split_turn}
use Rattle.exact_engine.proofs.copying.+copy_of.Goals as goal

-- a child has less room in a store that is the same
falls_now : (source now : Store) (n : Node) (r : Ref) (m : ℕ) (b : Bool) → IsGood source → now ≡ source → source.held r ≡ Some n → room source r ≡ m → room now (if b then n.hi else n.lo) < m
falls_now source now n r m b d same at is =
    let here : room now (if b then n.hi else n.lo) ≡ room source (if b then n.hi else n.lo) = ap (λ (x : Store). room x (if b then n.hi else n.lo)) same in
    let falls : room source (if b then n.hi else n.lo) < room source r = room_falls source n r (if b then n.hi else n.lo) d at (child_from source n r d at b) in
    omega (arith, here, falls, is)

ref_now : (source now : Store) (n : Node) (r : Ref) (b : Bool) → IsGood source → now ≡ source → source.held r ≡ Some n → IsRef now (if b then n.hi else n.lo)
ref_now source now n r b d same at = subst (λ (x : Store). IsRef x (if b then n.hi else n.lo)) (sym same) (child_ref source n r d at b)

pub returns-then-r-lt2-clause-built : goal.returns-then-r-lt2-clause-built
returns-then-r-lt2-clause-built g t0 c =
    let o : Store = g.M.Nodes.store c.args.source.now in
    let dm = g.met.M.Nodes.diagram c.args.source.now in
    let s : Store = g.N.Nodes.store c.args.nodes.now in
    let ds = g.met.N.Nodes.diagram c.args.nodes.now in
    let r : Ref = c.args.r in
    let f : Function = function o r in
    Built-made (f ∷ []) (HasFunction f) s s r (So-start (f ∷ []) s) (constant_copy o s r dm ds c.if-r-lt2.true)

pub returns-in-Some-clause-built : goal.returns-in-Some-clause-built
returns-in-Some-clause-built g t0 c =
    let o : Store = g.M.Nodes.store c.args.source.now in
    let dm = g.met.M.Nodes.diagram c.args.source.now in
    let s : Store = g.N.Nodes.store c.args.nodes.now in
    let ds = g.met.N.Nodes.diagram c.args.nodes.now in
    let r : Ref = c.args.r in
    let f : Function = function o r in
    let found : Ref = c.in-Some.found.now in
    Built-made (f ∷ []) (HasFunction f) s s found (So-start (f ∷ []) s) (c.requires.met r found (sym c.in-Some.ensures.value)).1

pub returns-in_err-lo-clause-built : goal.returns-in_err-lo-clause-built
returns-in_err-lo-clause-built g t0 c =
    let o : Store = g.M.Nodes.store c.args.source.now in
    let dm = g.met.M.Nodes.diagram c.args.source.now in
    let s : Store = g.N.Nodes.store c.args.nodes.now in
    let ds = g.met.N.Nodes.diagram c.args.nodes.now in
    let r : Ref = c.args.r in
    let f : Function = function o r in
    let o1 : Store = g.M.Nodes.store c.node-node.new.self in
    let n : Node = c.node-node.result in
    let at : o.held r ≡ Some n = c.node-node.ensures.node in
    let e1 : o1 ≡ o = c.node-node.ensures.store in
    let vars = c.requires.vars in
    let t : Store = g.N.Nodes.store c.copy_of.new.nodes in
    let dt = g.met.N.Nodes.diagram c.copy_of.new.nodes in
    let g0 : Function = part_of o dm r n at false in
    let fault = c.in_err-lo.field-0.0 in
    pass (f ∷ []) (HasFunction g0) (HasFunction f) s s t fault c.from_residual.result ds dt (So-start (f ∷ []) s)
    (half_turn o dm r n at s vars false o1 s t (Err fault) e1 ds dt (So-start (f ∷ []) s) c.in_err-lo.ensures.built) c.from_residual.ensures.1

pub returns-in_err-hi-clause-built : goal.returns-in_err-hi-clause-built
returns-in_err-hi-clause-built g t0 c =
    let o : Store = g.M.Nodes.store c.args.source.now in
    let dm = g.met.M.Nodes.diagram c.args.source.now in
    let s : Store = g.N.Nodes.store c.args.nodes.now in
    let ds = g.met.N.Nodes.diagram c.args.nodes.now in
    let r : Ref = c.args.r in
    let f : Function = function o r in
    let o1 : Store = g.M.Nodes.store c.node-node.new.self in
    let n : Node = c.node-node.result in
    let at : o.held r ≡ Some n = c.node-node.ensures.node in
    let e1 : o1 ≡ o = c.node-node.ensures.store in
    let vars = c.requires.vars in
    let t : Store = g.N.Nodes.store c.copy_of.new.nodes in
    let dt = g.met.N.Nodes.diagram c.copy_of.new.nodes in
    let g0 : Function = part_of o dm r n at false in
    let lo : Ref = c.in_ok-lo.lo in
    let a : Built (f ∷ []) (HasFunction g0) s t (Ok lo) = half_turn o dm r n at s vars false o1 s t (Ok lo) e1 ds dt (So-start (f ∷ []) s) c.in_ok-lo.ensures.built in
    let so1 = first (f ∷ []) (HasFunction g0) s t (Ok lo) a in
    let o2 : Store = g.M.Nodes.store c.copy_of.new.source in
    let e2 : o2 ≡ o = c.in_ok-lo.ensures.source ∙ e1 in
    let u : Store = g.N.Nodes.store c.copy_of-2.new.nodes in
    let du = g.met.N.Nodes.diagram c.copy_of-2.new.nodes in
    let g1 : Function = part_of o dm r n at true in
    let fault = c.in_err-hi.field-0.0 in
    pass (f ∷ []) (HasFunction g1) (HasFunction f) s s u fault c.from_residual-in_err-hi.result ds du (So-start (f ∷ []) s)
    (half_turn o dm r n at s vars true o2 t u (Err fault) e2 dt du so1 c.in_err-hi.ensures.built) c.from_residual-in_err-hi.ensures.1

pub split_at-requires-clause-var : goal.split_at-requires-clause-var
split_at-requires-clause-var g t0 c =
    let o : Store = g.M.Nodes.store c.args.source.now in
    let dm = g.met.M.Nodes.diagram c.args.source.now in
    let s : Store = g.N.Nodes.store c.args.nodes.now in
    let ds = g.met.N.Nodes.diagram c.args.nodes.now in
    let r : Ref = c.args.r in
    let f : Function = function o r in
    let o1 : Store = g.M.Nodes.store c.node-node.new.self in
    let n : Node = c.node-node.result in
    let at : o.held r ≡ Some n = c.node-node.ensures.node in
    let e1 : o1 ≡ o = c.node-node.ensures.store in
    let vars = c.requires.vars in
    let t : Store = g.N.Nodes.store c.copy_of.new.nodes in
    let dt = g.met.N.Nodes.diagram c.copy_of.new.nodes in
    let g0 : Function = part_of o dm r n at false in
    let lo : Ref = c.in_ok-lo.lo in
    let a : Built (f ∷ []) (HasFunction g0) s t (Ok lo) = half_turn o dm r n at s vars false o1 s t (Ok lo) e1 ds dt (So-start (f ∷ []) s) c.in_ok-lo.ensures.built in
    let so1 = first (f ∷ []) (HasFunction g0) s t (Ok lo) a in
    let o2 : Store = g.M.Nodes.store c.copy_of.new.source in
    let e2 : o2 ≡ o = c.in_ok-lo.ensures.source ∙ e1 in
    let u : Store = g.N.Nodes.store c.copy_of-2.new.nodes in
    let du = g.met.N.Nodes.diagram c.copy_of-2.new.nodes in
    let g1 : Function = part_of o dm r n at true in
    let hi : Ref = c.in_ok-hi.hi in
    let b : Built (f ∷ []) (HasFunction g1) s u (Ok hi) = half_turn o dm r n at s vars true o2 t u (Ok hi) e2 dt du so1 c.in_ok-hi.ensures.built in
    let so2 = first (f ∷ []) (HasFunction g1) s u (Ok hi) b in
    let mlo : Means u g0 lo = Means-keeps t u g0 lo dt du c.in_ok-hi.ensures.built.spends.keeps a.ok in
    (split_turn o dm r n at s vars u lo hi du so2.keeps mlo b.ok).inside

pub split_at-requires-clause-lo : goal.split_at-requires-clause-lo
split_at-requires-clause-lo g t0 c =
    let o : Store = g.M.Nodes.store c.args.source.now in
    let dm = g.met.M.Nodes.diagram c.args.source.now in
    let s : Store = g.N.Nodes.store c.args.nodes.now in
    let ds = g.met.N.Nodes.diagram c.args.nodes.now in
    let r : Ref = c.args.r in
    let f : Function = function o r in
    let o1 : Store = g.M.Nodes.store c.node-node.new.self in
    let n : Node = c.node-node.result in
    let at : o.held r ≡ Some n = c.node-node.ensures.node in
    let e1 : o1 ≡ o = c.node-node.ensures.store in
    let vars = c.requires.vars in
    let t : Store = g.N.Nodes.store c.copy_of.new.nodes in
    let dt = g.met.N.Nodes.diagram c.copy_of.new.nodes in
    let g0 : Function = part_of o dm r n at false in
    let lo : Ref = c.in_ok-lo.lo in
    let a : Built (f ∷ []) (HasFunction g0) s t (Ok lo) = half_turn o dm r n at s vars false o1 s t (Ok lo) e1 ds dt (So-start (f ∷ []) s) c.in_ok-lo.ensures.built in
    let so1 = first (f ∷ []) (HasFunction g0) s t (Ok lo) a in
    let o2 : Store = g.M.Nodes.store c.copy_of.new.source in
    let e2 : o2 ≡ o = c.in_ok-lo.ensures.source ∙ e1 in
    let u : Store = g.N.Nodes.store c.copy_of-2.new.nodes in
    let du = g.met.N.Nodes.diagram c.copy_of-2.new.nodes in
    let g1 : Function = part_of o dm r n at true in
    let hi : Ref = c.in_ok-hi.hi in
    let b : Built (f ∷ []) (HasFunction g1) s u (Ok hi) = half_turn o dm r n at s vars true o2 t u (Ok hi) e2 dt du so1 c.in_ok-hi.ensures.built in
    let so2 = first (f ∷ []) (HasFunction g1) s u (Ok hi) b in
    let mlo : Means u g0 lo = Means-keeps t u g0 lo dt du c.in_ok-hi.ensures.built.spends.keeps a.ok in
    part_from o dm r n at s vars false u lo du so2.keeps mlo

pub split_at-requires-clause-hi : goal.split_at-requires-clause-hi
split_at-requires-clause-hi g t0 c =
    let o : Store = g.M.Nodes.store c.args.source.now in
    let dm = g.met.M.Nodes.diagram c.args.source.now in
    let s : Store = g.N.Nodes.store c.args.nodes.now in
    let ds = g.met.N.Nodes.diagram c.args.nodes.now in
    let r : Ref = c.args.r in
    let f : Function = function o r in
    let o1 : Store = g.M.Nodes.store c.node-node.new.self in
    let n : Node = c.node-node.result in
    let at : o.held r ≡ Some n = c.node-node.ensures.node in
    let e1 : o1 ≡ o = c.node-node.ensures.store in
    let vars = c.requires.vars in
    let t : Store = g.N.Nodes.store c.copy_of.new.nodes in
    let dt = g.met.N.Nodes.diagram c.copy_of.new.nodes in
    let g0 : Function = part_of o dm r n at false in
    let lo : Ref = c.in_ok-lo.lo in
    let a : Built (f ∷ []) (HasFunction g0) s t (Ok lo) = half_turn o dm r n at s vars false o1 s t (Ok lo) e1 ds dt (So-start (f ∷ []) s) c.in_ok-lo.ensures.built in
    let so1 = first (f ∷ []) (HasFunction g0) s t (Ok lo) a in
    let o2 : Store = g.M.Nodes.store c.copy_of.new.source in
    let e2 : o2 ≡ o = c.in_ok-lo.ensures.source ∙ e1 in
    let u : Store = g.N.Nodes.store c.copy_of-2.new.nodes in
    let du = g.met.N.Nodes.diagram c.copy_of-2.new.nodes in
    let g1 : Function = part_of o dm r n at true in
    let hi : Ref = c.in_ok-hi.hi in
    let b : Built (f ∷ []) (HasFunction g1) s u (Ok hi) = half_turn o dm r n at s vars true o2 t u (Ok hi) e2 dt du so1 c.in_ok-hi.ensures.built in
    let so2 = first (f ∷ []) (HasFunction g1) s u (Ok hi) b in
    let mlo : Means u g0 lo = Means-keeps t u g0 lo dt du c.in_ok-hi.ensures.built.spends.keeps a.ok in
    part_from o dm r n at s vars true u hi du so2.keeps b.ok

pub returns-in_err-made-clause-built : goal.returns-in_err-made-clause-built
returns-in_err-made-clause-built g t0 c =
    let o : Store = g.M.Nodes.store c.args.source.now in
    let dm = g.met.M.Nodes.diagram c.args.source.now in
    let s : Store = g.N.Nodes.store c.args.nodes.now in
    let ds = g.met.N.Nodes.diagram c.args.nodes.now in
    let r : Ref = c.args.r in
    let f : Function = function o r in
    let o1 : Store = g.M.Nodes.store c.node-node.new.self in
    let n : Node = c.node-node.result in
    let at : o.held r ≡ Some n = c.node-node.ensures.node in
    let e1 : o1 ≡ o = c.node-node.ensures.store in
    let vars = c.requires.vars in
    let t : Store = g.N.Nodes.store c.copy_of.new.nodes in
    let dt = g.met.N.Nodes.diagram c.copy_of.new.nodes in
    let g0 : Function = part_of o dm r n at false in
    let lo : Ref = c.in_ok-lo.lo in
    let a : Built (f ∷ []) (HasFunction g0) s t (Ok lo) = half_turn o dm r n at s vars false o1 s t (Ok lo) e1 ds dt (So-start (f ∷ []) s) c.in_ok-lo.ensures.built in
    let so1 = first (f ∷ []) (HasFunction g0) s t (Ok lo) a in
    let o2 : Store = g.M.Nodes.store c.copy_of.new.source in
    let e2 : o2 ≡ o = c.in_ok-lo.ensures.source ∙ e1 in
    let u : Store = g.N.Nodes.store c.copy_of-2.new.nodes in
    let du = g.met.N.Nodes.diagram c.copy_of-2.new.nodes in
    let g1 : Function = part_of o dm r n at true in
    let hi : Ref = c.in_ok-hi.hi in
    let b : Built (f ∷ []) (HasFunction g1) s u (Ok hi) = half_turn o dm r n at s vars true o2 t u (Ok hi) e2 dt du so1 c.in_ok-hi.ensures.built in
    let so2 = first (f ∷ []) (HasFunction g1) s u (Ok hi) b in
    let mlo : Means u g0 lo = Means-keeps t u g0 lo dt du c.in_ok-hi.ensures.built.spends.keeps a.ok in
    let w : Store = g.N.Nodes.store c.split_at.new.nodes in
    let dw = g.met.N.Nodes.diagram c.split_at.new.nodes in
    let fault = c.in_err-made.field-0.0 in
    pass (f ∷ []) (HasFunction f) (HasFunction f) s s w fault c.from_residual-in_err-made.result ds dw (So-start (f ∷ []) s)
    (made_turn o dm r n at s vars u w lo hi (Err fault) du dw so2 mlo b.ok c.in_err-made.ensures) c.from_residual-in_err-made.ensures.1

pub returns-clause-built : goal.returns-clause-built
returns-clause-built g t0 c =
    let o : Store = g.M.Nodes.store c.args.source.now in
    let dm = g.met.M.Nodes.diagram c.args.source.now in
    let s : Store = g.N.Nodes.store c.args.nodes.now in
    let ds = g.met.N.Nodes.diagram c.args.nodes.now in
    let r : Ref = c.args.r in
    let f : Function = function o r in
    let o1 : Store = g.M.Nodes.store c.node-node.new.self in
    let n : Node = c.node-node.result in
    let at : o.held r ≡ Some n = c.node-node.ensures.node in
    let e1 : o1 ≡ o = c.node-node.ensures.store in
    let vars = c.requires.vars in
    let t : Store = g.N.Nodes.store c.copy_of.new.nodes in
    let dt = g.met.N.Nodes.diagram c.copy_of.new.nodes in
    let g0 : Function = part_of o dm r n at false in
    let lo : Ref = c.in_ok-lo.lo in
    let a : Built (f ∷ []) (HasFunction g0) s t (Ok lo) = half_turn o dm r n at s vars false o1 s t (Ok lo) e1 ds dt (So-start (f ∷ []) s) c.in_ok-lo.ensures.built in
    let so1 = first (f ∷ []) (HasFunction g0) s t (Ok lo) a in
    let o2 : Store = g.M.Nodes.store c.copy_of.new.source in
    let e2 : o2 ≡ o = c.in_ok-lo.ensures.source ∙ e1 in
    let u : Store = g.N.Nodes.store c.copy_of-2.new.nodes in
    let du = g.met.N.Nodes.diagram c.copy_of-2.new.nodes in
    let g1 : Function = part_of o dm r n at true in
    let hi : Ref = c.in_ok-hi.hi in
    let b : Built (f ∷ []) (HasFunction g1) s u (Ok hi) = half_turn o dm r n at s vars true o2 t u (Ok hi) e2 dt du so1 c.in_ok-hi.ensures.built in
    let so2 = first (f ∷ []) (HasFunction g1) s u (Ok hi) b in
    let mlo : Means u g0 lo = Means-keeps t u g0 lo dt du c.in_ok-hi.ensures.built.spends.keeps a.ok in
    let w : Store = g.N.Nodes.store c.split_at.new.nodes in
    let dw = g.met.N.Nodes.diagram c.split_at.new.nodes in
    let made : Ref = c.in_ok-made.made in
    let e : Built (f ∷ []) (HasFunction f) s w (Ok made) = made_turn o dm r n at s vars u w lo hi (Ok made) du dw so2 mlo b.ok c.in_ok-made.ensures in
    e

pub returns-clause-met : goal.returns-clause-met
returns-clause-met g t0 c =
    let o : Store = g.M.Nodes.store c.args.source.now in
    let dm = g.met.M.Nodes.diagram c.args.source.now in
    let s : Store = g.N.Nodes.store c.args.nodes.now in
    let ds = g.met.N.Nodes.diagram c.args.nodes.now in
    let r : Ref = c.args.r in
    let f : Function = function o r in
    let o1 : Store = g.M.Nodes.store c.node-node.new.self in
    let n : Node = c.node-node.result in
    let at : o.held r ≡ Some n = c.node-node.ensures.node in
    let e1 : o1 ≡ o = c.node-node.ensures.store in
    let vars = c.requires.vars in
    let t : Store = g.N.Nodes.store c.copy_of.new.nodes in
    let dt = g.met.N.Nodes.diagram c.copy_of.new.nodes in
    let g0 : Function = part_of o dm r n at false in
    let lo : Ref = c.in_ok-lo.lo in
    let a : Built (f ∷ []) (HasFunction g0) s t (Ok lo) = half_turn o dm r n at s vars false o1 s t (Ok lo) e1 ds dt (So-start (f ∷ []) s) c.in_ok-lo.ensures.built in
    let so1 = first (f ∷ []) (HasFunction g0) s t (Ok lo) a in
    let o2 : Store = g.M.Nodes.store c.copy_of.new.source in
    let e2 : o2 ≡ o = c.in_ok-lo.ensures.source ∙ e1 in
    let u : Store = g.N.Nodes.store c.copy_of-2.new.nodes in
    let du = g.met.N.Nodes.diagram c.copy_of-2.new.nodes in
    let g1 : Function = part_of o dm r n at true in
    let hi : Ref = c.in_ok-hi.hi in
    let b : Built (f ∷ []) (HasFunction g1) s u (Ok hi) = half_turn o dm r n at s vars true o2 t u (Ok hi) e2 dt du so1 c.in_ok-hi.ensures.built in
    let so2 = first (f ∷ []) (HasFunction g1) s u (Ok hi) b in
    let mlo : Means u g0 lo = Means-keeps t u g0 lo dt du c.in_ok-hi.ensures.built.spends.keeps a.ok in
    let w : Store = g.N.Nodes.store c.split_at.new.nodes in
    let dw = g.met.N.Nodes.diagram c.split_at.new.nodes in
    let made : Ref = c.in_ok-made.made in
    let e : Built (f ∷ []) (HasFunction f) s w (Ok made) = made_turn o dm r n at s vars u w lo hi (Ok made) du dw so2 mlo b.ok c.in_ok-made.ensures in
    copied_more o w c.copy_of-2.new.met c.remember.new.met r made c.requires.held e.ok c.in_ok-remember.ensures
    (copied_keep o u w c.copy_of-2.new.met du dw (c.in_ok-made.ensures f (split_turn o dm r n at s vars u lo hi du so2.keeps mlo b.ok)).keeps
    (subst (λ (x : Store). AreCopied x u c.copy_of-2.new.met) e2 c.in_ok-hi.ensures.met))

pub returns-in_err-remember-clause-built : goal.returns-in_err-remember-clause-built
returns-in_err-remember-clause-built g t0 c =
    let o : Store = g.M.Nodes.store c.args.source.now in
    let dm = g.met.M.Nodes.diagram c.args.source.now in
    let s : Store = g.N.Nodes.store c.args.nodes.now in
    let ds = g.met.N.Nodes.diagram c.args.nodes.now in
    let r : Ref = c.args.r in
    let f : Function = function o r in
    let o1 : Store = g.M.Nodes.store c.node-node.new.self in
    let n : Node = c.node-node.result in
    let at : o.held r ≡ Some n = c.node-node.ensures.node in
    let e1 : o1 ≡ o = c.node-node.ensures.store in
    let vars = c.requires.vars in
    let t : Store = g.N.Nodes.store c.copy_of.new.nodes in
    let dt = g.met.N.Nodes.diagram c.copy_of.new.nodes in
    let g0 : Function = part_of o dm r n at false in
    let lo : Ref = c.in_ok-lo.lo in
    let a : Built (f ∷ []) (HasFunction g0) s t (Ok lo) = half_turn o dm r n at s vars false o1 s t (Ok lo) e1 ds dt (So-start (f ∷ []) s) c.in_ok-lo.ensures.built in
    let so1 = first (f ∷ []) (HasFunction g0) s t (Ok lo) a in
    let o2 : Store = g.M.Nodes.store c.copy_of.new.source in
    let e2 : o2 ≡ o = c.in_ok-lo.ensures.source ∙ e1 in
    let u : Store = g.N.Nodes.store c.copy_of-2.new.nodes in
    let du = g.met.N.Nodes.diagram c.copy_of-2.new.nodes in
    let g1 : Function = part_of o dm r n at true in
    let hi : Ref = c.in_ok-hi.hi in
    let b : Built (f ∷ []) (HasFunction g1) s u (Ok hi) = half_turn o dm r n at s vars true o2 t u (Ok hi) e2 dt du so1 c.in_ok-hi.ensures.built in
    let so2 = first (f ∷ []) (HasFunction g1) s u (Ok hi) b in
    let mlo : Means u g0 lo = Means-keeps t u g0 lo dt du c.in_ok-hi.ensures.built.spends.keeps a.ok in
    let w : Store = g.N.Nodes.store c.split_at.new.nodes in
    let dw = g.met.N.Nodes.diagram c.split_at.new.nodes in
    let made : Ref = c.in_ok-made.made in
    let e : Built (f ∷ []) (HasFunction f) s w (Ok made) = made_turn o dm r n at s vars u w lo hi (Ok made) du dw so2 mlo b.ok c.in_ok-made.ensures in
    lost (f ∷ []) (HasFunction f) s w c.from_residual-in_err-remember.result (first (f ∷ []) (HasFunction f) s w (Ok made) e) c.from_residual-in_err-remember.ensures.1

pub copy_of-requires : goal.copy_of-requires
copy_of-requires g t0 c κs within =
    let o : Store = g.M.Nodes.store c.args.source.now in
    let dm = g.met.M.Nodes.diagram c.args.source.now in
    let s : Store = g.N.Nodes.store c.args.nodes.now in
    let ds = g.met.N.Nodes.diagram c.args.nodes.now in
    let r : Ref = c.args.r in
    let f : Function = function o r in
    let o1 : Store = g.M.Nodes.store c.node-node.new.self in
    let n : Node = c.node-node.result in
    let at : o.held r ≡ Some n = c.node-node.ensures.node in
    let e1 : o1 ≡ o = c.node-node.ensures.store in
    let vars = c.requires.vars in (
      falls_now o o1 n r t0 false dm e1 at c.decreases,
      (
        within.0,
        (
          within.1,
          (ref_now o o1 n r false dm e1 at, (ap (λ (x : Store). x.vars) e1 ∙ vars, subst (λ (x : Store). AreCopied x s c.args.met.now) (sym e1) c.requires.met)),
        ),
      ),
    )

pub copy_of-requires-2 : goal.copy_of-requires-2
copy_of-requires-2 g t0 c κs within =
    let o : Store = g.M.Nodes.store c.args.source.now in
    let dm = g.met.M.Nodes.diagram c.args.source.now in
    let s : Store = g.N.Nodes.store c.args.nodes.now in
    let ds = g.met.N.Nodes.diagram c.args.nodes.now in
    let r : Ref = c.args.r in
    let f : Function = function o r in
    let o1 : Store = g.M.Nodes.store c.node-node.new.self in
    let n : Node = c.node-node.result in
    let at : o.held r ≡ Some n = c.node-node.ensures.node in
    let e1 : o1 ≡ o = c.node-node.ensures.store in
    let vars = c.requires.vars in
    let t : Store = g.N.Nodes.store c.copy_of.new.nodes in
    let dt = g.met.N.Nodes.diagram c.copy_of.new.nodes in
    let g0 : Function = part_of o dm r n at false in
    let lo : Ref = c.in_ok-lo.lo in
    let a : Built (f ∷ []) (HasFunction g0) s t (Ok lo) = half_turn o dm r n at s vars false o1 s t (Ok lo) e1 ds dt (So-start (f ∷ []) s) c.in_ok-lo.ensures.built in
    let so1 = first (f ∷ []) (HasFunction g0) s t (Ok lo) a in
    let o2 : Store = g.M.Nodes.store c.copy_of.new.source in
    let e2 : o2 ≡ o = c.in_ok-lo.ensures.source ∙ e1 in (
      falls_now o o2 n r t0 true dm e2 at c.decreases,
      (
        within.0,
        (
          within.1,
          (
            ref_now o o2 n r true dm e2 at,
            (
              ap (λ (x : Store). x.vars) e2 ∙ vars ∙ sym so1.keeps.vars,
              subst (λ (x : Store). AreCopied x t c.copy_of.new.met) (sym c.in_ok-lo.ensures.source) c.in_ok-lo.ensures.met,
            ),
          ),
        ),
      ),
    )
