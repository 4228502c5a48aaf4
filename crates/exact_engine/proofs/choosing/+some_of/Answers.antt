use Rattle.std.proofs.Common.{◌≡◌, ◌<◌, ◌≤◌, ◌-◌, ◌∷◌, [], ℕ, List, true, false, sym, ap, subst, arith, Ok, Err, Some}
use Rattle.dd_nodes.specs.declared.node.Ref.{Ref}
use Rattle.dd_nodes.specs.declared.node.Node.{Node}
use Rattle.ste_base.specs.Functions.{Function}
use Rattle.dd_nodes.specs.Stores.{Store, Keeps, Means}
use Rattle.dd_nodes.proofs.Stores.{IsGood, Keeps-refl, Keeps-trans, Means-keeps}
use Rattle.dd_nodes.proofs.Walks.{IsFrom-grows, from_held}
use Rattle.dual_rail.specs.Rail.{Built, HasFunction}
use Rattle.dual_rail.proofs.Works.{SoFar, Built-made, So-start, first, lost, pass}
use Rattle.dd_query.proofs.Room.{falls_in, ref_in, room, room_falls}
use Rattle.exact_engine.specs.private.Choosing.{AreMet, some_behind}
use Rattle.exact_engine.proofs.Chosen.{behind_keeps, child_ref, half_turn, made_turn, met_keep, met_more, of_choice, of_constant, part_from, part_of, split_turn, whole_of}
use Rattle.exact_engine.proofs.choosing.+some_of.Goals as goal

-- a store that is the same keeps all
same_keeps : (s t : Store) → t ≡ s → Keeps s t
same_keeps s t e = subst (λ (x : Store). Keeps s x) (sym e) (Keeps-refl s)

same_so : (work : List Function) (s t : Store) → t ≡ s → SoFar work s t
same_so work s t e = subst (λ (x : Store). SoFar work s x) (sym e) (So-start work s)

-- a child has less room in a later store too
falls_later : (s t : Store) (n : Node) (r : Ref) (m : ℕ) → IsGood s → IsGood t → Keeps s t → s.held r ≡ Some n → room s r ≡ m → room t n.hi < m
falls_later s t n r m ds dt k at is =
    let falls = room_falls t n r n.hi dt (k.grows r n at) (dt.high r n (k.grows r n at)) in
    let here : room t r ≡ room s r = rw (at, k.grows r n at) (ap (λ (v : ℕ). v - n.var) k.vars) in
    omega (arith, falls, here, is)

pub returns-then-r-lt2-clause-built : goal.returns-then-r-lt2-clause-built
returns-then-r-lt2-clause-built g t0 c =
    let s : Store = g.N.Nodes.store c.args.nodes.now in
    let f : Function = some_behind c.args.vars s c.args.r in
    Built-made (f ∷ []) (HasFunction f) s s c.args.r (So-start (f ∷ []) s) (of_constant s c.args.vars (g.met.N.Nodes.diagram c.args.nodes.now) c.requires.vars c.args.r c.if-r-lt2.true)

pub returns-then-node-vars-clause-built : goal.returns-then-node-vars-clause-built
returns-then-node-vars-clause-built g t0 c =
    let s : Store = g.N.Nodes.store c.args.nodes.now in
    let t : Store = g.N.Nodes.store c.node-node.new.self in
    let d = g.met.N.Nodes.diagram c.args.nodes.now in
    let r : Ref = c.args.r in
    let f : Function = some_behind c.args.vars s r in
    let one : Ref = record { 0 = 1 } in
    let means : Means s f one = of_choice s c.args.vars d c.requires.vars r c.requires.held (from_held s.held c.args.vars r c.node-node.result c.node-node.ensures.node c.if-node-vars.true) c.if-r-lt2.false in
    Built-made (f ∷ []) (HasFunction f) s t one (same_so (f ∷ []) s t c.node-node.ensures.store) (Means-keeps s t f one d (g.met.N.Nodes.diagram c.node-node.new.self) (same_keeps s t c.node-node.ensures.store) means)

pub returns-then-node-vars-clause-met : goal.returns-then-node-vars-clause-met
returns-then-node-vars-clause-met g t0 c =
    subst (λ (x : Store). AreMet x c.args.vars c.args.met.now) (sym c.node-node.ensures.store) c.requires.met

pub returns-in-Some-clause-built : goal.returns-in-Some-clause-built
returns-in-Some-clause-built g t0 c =
    let s : Store = g.N.Nodes.store c.args.nodes.now in
    let t : Store = g.N.Nodes.store c.node-node.new.self in
    let d = g.met.N.Nodes.diagram c.args.nodes.now in
    let f : Function = some_behind c.args.vars s c.args.r in
    let found : Ref = c.in-Some.found.now in
    let means = (c.requires.met c.args.r found (sym c.in-Some.ensures.value)).1 in
    Built-made (f ∷ []) (HasFunction f) s t found (same_so (f ∷ []) s t c.node-node.ensures.store) (Means-keeps s t f found d (g.met.N.Nodes.diagram c.node-node.new.self) (same_keeps s t c.node-node.ensures.store) means)

pub returns-in-Some-clause-met : goal.returns-in-Some-clause-met
returns-in-Some-clause-met g t0 c =
    subst (λ (x : Store). AreMet x c.args.vars c.args.met.now) (sym c.node-node.ensures.store) c.requires.met

pub returns-in_err-lo-clause-built : goal.returns-in_err-lo-clause-built
returns-in_err-lo-clause-built g t0 c =
    let s : Store = g.N.Nodes.store c.args.nodes.now in
    let s1 : Store = g.N.Nodes.store c.node-node.new.self in
    let t : Store = g.N.Nodes.store c.some_of.new.nodes in
    let ds = g.met.N.Nodes.diagram c.args.nodes.now in
    let d1 = g.met.N.Nodes.diagram c.node-node.new.self in
    let dt = g.met.N.Nodes.diagram c.some_of.new.nodes in
    let v = c.args.vars in
    let le = c.requires.vars in
    let r : Ref = c.args.r in
    let n : Node = c.node-node.result in
    let at : s.held r ≡ Some n = c.node-node.ensures.node in
    let low : n.var < v = omega (arith, c.if-node-vars.false) in
    let f : Function = whole_of s v ds le r n c.requires.held at low in
    let g0 : Function = part_of s v ds le r n c.requires.held at low false in
    let so0 = same_so (f ∷ []) s s1 c.node-node.ensures.store in
    let fault = c.in_err-lo.field-0.0 in
    pass (f ∷ []) (HasFunction g0) (HasFunction f) s s t fault c.from_residual.result ds dt (So-start (f ∷ []) s)
    (half_turn s v ds le r n c.requires.held at low false s1 t (Err fault) d1 dt so0 c.in_err-lo.ensures.built) c.from_residual.ensures.1

pub returns-in_err-hi-clause-built : goal.returns-in_err-hi-clause-built
returns-in_err-hi-clause-built g t0 c =
    let s : Store = g.N.Nodes.store c.args.nodes.now in
    let s1 : Store = g.N.Nodes.store c.node-node.new.self in
    let t : Store = g.N.Nodes.store c.some_of.new.nodes in
    let ds = g.met.N.Nodes.diagram c.args.nodes.now in
    let d1 = g.met.N.Nodes.diagram c.node-node.new.self in
    let dt = g.met.N.Nodes.diagram c.some_of.new.nodes in
    let v = c.args.vars in
    let le = c.requires.vars in
    let r : Ref = c.args.r in
    let n : Node = c.node-node.result in
    let at : s.held r ≡ Some n = c.node-node.ensures.node in
    let low : n.var < v = omega (arith, c.if-node-vars.false) in
    let f : Function = whole_of s v ds le r n c.requires.held at low in
    let g0 : Function = part_of s v ds le r n c.requires.held at low false in
    let so0 = same_so (f ∷ []) s s1 c.node-node.ensures.store in
    let lo : Ref = c.in_ok-lo.lo in
    let a : Built (f ∷ []) (HasFunction g0) s t (Ok lo) = half_turn s v ds le r n c.requires.held at low false s1 t (Ok lo) d1 dt so0 c.in_ok-lo.ensures.built in
    let so1 = first (f ∷ []) (HasFunction g0) s t (Ok lo) a in
    let u : Store = g.N.Nodes.store c.some_of-2.new.nodes in
    let du = g.met.N.Nodes.diagram c.some_of-2.new.nodes in
    let g1 : Function = part_of s v ds le r n c.requires.held at low true in
    let fault = c.in_err-hi.field-0.0 in
    pass (f ∷ []) (HasFunction g1) (HasFunction f) s s u fault c.from_residual-in_err-hi.result ds du (So-start (f ∷ []) s)
    (half_turn s v ds le r n c.requires.held at low true t u (Err fault) dt du so1 c.in_err-hi.ensures.built) c.from_residual-in_err-hi.ensures.1

pub split_at-requires-clause-lo : goal.split_at-requires-clause-lo
split_at-requires-clause-lo g t0 c =
    let s : Store = g.N.Nodes.store c.args.nodes.now in
    let s1 : Store = g.N.Nodes.store c.node-node.new.self in
    let t : Store = g.N.Nodes.store c.some_of.new.nodes in
    let ds = g.met.N.Nodes.diagram c.args.nodes.now in
    let d1 = g.met.N.Nodes.diagram c.node-node.new.self in
    let dt = g.met.N.Nodes.diagram c.some_of.new.nodes in
    let v = c.args.vars in
    let le = c.requires.vars in
    let r : Ref = c.args.r in
    let n : Node = c.node-node.result in
    let at : s.held r ≡ Some n = c.node-node.ensures.node in
    let low : n.var < v = omega (arith, c.if-node-vars.false) in
    let f : Function = whole_of s v ds le r n c.requires.held at low in
    let g0 : Function = part_of s v ds le r n c.requires.held at low false in
    let so0 = same_so (f ∷ []) s s1 c.node-node.ensures.store in
    let lo : Ref = c.in_ok-lo.lo in
    let a : Built (f ∷ []) (HasFunction g0) s t (Ok lo) = half_turn s v ds le r n c.requires.held at low false s1 t (Ok lo) d1 dt so0 c.in_ok-lo.ensures.built in
    let so1 = first (f ∷ []) (HasFunction g0) s t (Ok lo) a in
    let u : Store = g.N.Nodes.store c.some_of-2.new.nodes in
    let du = g.met.N.Nodes.diagram c.some_of-2.new.nodes in
    let g1 : Function = part_of s v ds le r n c.requires.held at low true in
    let hi : Ref = c.in_ok-hi.hi in
    let b : Built (f ∷ []) (HasFunction g1) s u (Ok hi) = half_turn s v ds le r n c.requires.held at low true t u (Ok hi) dt du so1 c.in_ok-hi.ensures.built in
    let so2 = first (f ∷ []) (HasFunction g1) s u (Ok hi) b in
    let keeps_u : Keeps t u = c.in_ok-hi.ensures.built.spends.keeps in
    let mlo : Means u g0 lo = Means-keeps t u g0 lo dt du keeps_u a.ok in
    part_from s v ds le r n c.requires.held at low false u lo du so2.keeps mlo

pub split_at-requires-clause-hi : goal.split_at-requires-clause-hi
split_at-requires-clause-hi g t0 c =
    let s : Store = g.N.Nodes.store c.args.nodes.now in
    let s1 : Store = g.N.Nodes.store c.node-node.new.self in
    let t : Store = g.N.Nodes.store c.some_of.new.nodes in
    let ds = g.met.N.Nodes.diagram c.args.nodes.now in
    let d1 = g.met.N.Nodes.diagram c.node-node.new.self in
    let dt = g.met.N.Nodes.diagram c.some_of.new.nodes in
    let v = c.args.vars in
    let le = c.requires.vars in
    let r : Ref = c.args.r in
    let n : Node = c.node-node.result in
    let at : s.held r ≡ Some n = c.node-node.ensures.node in
    let low : n.var < v = omega (arith, c.if-node-vars.false) in
    let f : Function = whole_of s v ds le r n c.requires.held at low in
    let g0 : Function = part_of s v ds le r n c.requires.held at low false in
    let so0 = same_so (f ∷ []) s s1 c.node-node.ensures.store in
    let lo : Ref = c.in_ok-lo.lo in
    let a : Built (f ∷ []) (HasFunction g0) s t (Ok lo) = half_turn s v ds le r n c.requires.held at low false s1 t (Ok lo) d1 dt so0 c.in_ok-lo.ensures.built in
    let so1 = first (f ∷ []) (HasFunction g0) s t (Ok lo) a in
    let u : Store = g.N.Nodes.store c.some_of-2.new.nodes in
    let du = g.met.N.Nodes.diagram c.some_of-2.new.nodes in
    let g1 : Function = part_of s v ds le r n c.requires.held at low true in
    let hi : Ref = c.in_ok-hi.hi in
    let b : Built (f ∷ []) (HasFunction g1) s u (Ok hi) = half_turn s v ds le r n c.requires.held at low true t u (Ok hi) dt du so1 c.in_ok-hi.ensures.built in
    let so2 = first (f ∷ []) (HasFunction g1) s u (Ok hi) b in
    let keeps_u : Keeps t u = c.in_ok-hi.ensures.built.spends.keeps in
    let mlo : Means u g0 lo = Means-keeps t u g0 lo dt du keeps_u a.ok in
    part_from s v ds le r n c.requires.held at low true u hi du so2.keeps b.ok

pub returns-in_err-made-clause-built : goal.returns-in_err-made-clause-built
returns-in_err-made-clause-built g t0 c =
    let s : Store = g.N.Nodes.store c.args.nodes.now in
    let s1 : Store = g.N.Nodes.store c.node-node.new.self in
    let t : Store = g.N.Nodes.store c.some_of.new.nodes in
    let ds = g.met.N.Nodes.diagram c.args.nodes.now in
    let d1 = g.met.N.Nodes.diagram c.node-node.new.self in
    let dt = g.met.N.Nodes.diagram c.some_of.new.nodes in
    let v = c.args.vars in
    let le = c.requires.vars in
    let r : Ref = c.args.r in
    let n : Node = c.node-node.result in
    let at : s.held r ≡ Some n = c.node-node.ensures.node in
    let low : n.var < v = omega (arith, c.if-node-vars.false) in
    let f : Function = whole_of s v ds le r n c.requires.held at low in
    let g0 : Function = part_of s v ds le r n c.requires.held at low false in
    let so0 = same_so (f ∷ []) s s1 c.node-node.ensures.store in
    let lo : Ref = c.in_ok-lo.lo in
    let a : Built (f ∷ []) (HasFunction g0) s t (Ok lo) = half_turn s v ds le r n c.requires.held at low false s1 t (Ok lo) d1 dt so0 c.in_ok-lo.ensures.built in
    let so1 = first (f ∷ []) (HasFunction g0) s t (Ok lo) a in
    let u : Store = g.N.Nodes.store c.some_of-2.new.nodes in
    let du = g.met.N.Nodes.diagram c.some_of-2.new.nodes in
    let g1 : Function = part_of s v ds le r n c.requires.held at low true in
    let hi : Ref = c.in_ok-hi.hi in
    let b : Built (f ∷ []) (HasFunction g1) s u (Ok hi) = half_turn s v ds le r n c.requires.held at low true t u (Ok hi) dt du so1 c.in_ok-hi.ensures.built in
    let so2 = first (f ∷ []) (HasFunction g1) s u (Ok hi) b in
    let keeps_u : Keeps t u = c.in_ok-hi.ensures.built.spends.keeps in
    let mlo : Means u g0 lo = Means-keeps t u g0 lo dt du keeps_u a.ok in
    let w : Store = g.N.Nodes.store c.split_at.new.nodes in
    let dw = g.met.N.Nodes.diagram c.split_at.new.nodes in
    let fault = c.in_err-made.field-0.0 in
    pass (f ∷ []) (HasFunction f) (HasFunction f) s s w fault c.from_residual-in_err-made.result ds dw (So-start (f ∷ []) s)
    (made_turn s v ds le r n c.requires.held at low u w lo hi (Err fault) du dw so2 mlo b.ok c.in_err-made.ensures) c.from_residual-in_err-made.ensures.1

pub returns-clause-built : goal.returns-clause-built
returns-clause-built g t0 c =
    let s : Store = g.N.Nodes.store c.args.nodes.now in
    let s1 : Store = g.N.Nodes.store c.node-node.new.self in
    let t : Store = g.N.Nodes.store c.some_of.new.nodes in
    let ds = g.met.N.Nodes.diagram c.args.nodes.now in
    let d1 = g.met.N.Nodes.diagram c.node-node.new.self in
    let dt = g.met.N.Nodes.diagram c.some_of.new.nodes in
    let v = c.args.vars in
    let le = c.requires.vars in
    let r : Ref = c.args.r in
    let n : Node = c.node-node.result in
    let at : s.held r ≡ Some n = c.node-node.ensures.node in
    let low : n.var < v = omega (arith, c.if-node-vars.false) in
    let f : Function = whole_of s v ds le r n c.requires.held at low in
    let g0 : Function = part_of s v ds le r n c.requires.held at low false in
    let so0 = same_so (f ∷ []) s s1 c.node-node.ensures.store in
    let lo : Ref = c.in_ok-lo.lo in
    let a : Built (f ∷ []) (HasFunction g0) s t (Ok lo) = half_turn s v ds le r n c.requires.held at low false s1 t (Ok lo) d1 dt so0 c.in_ok-lo.ensures.built in
    let so1 = first (f ∷ []) (HasFunction g0) s t (Ok lo) a in
    let u : Store = g.N.Nodes.store c.some_of-2.new.nodes in
    let du = g.met.N.Nodes.diagram c.some_of-2.new.nodes in
    let g1 : Function = part_of s v ds le r n c.requires.held at low true in
    let hi : Ref = c.in_ok-hi.hi in
    let b : Built (f ∷ []) (HasFunction g1) s u (Ok hi) = half_turn s v ds le r n c.requires.held at low true t u (Ok hi) dt du so1 c.in_ok-hi.ensures.built in
    let so2 = first (f ∷ []) (HasFunction g1) s u (Ok hi) b in
    let keeps_u : Keeps t u = c.in_ok-hi.ensures.built.spends.keeps in
    let mlo : Means u g0 lo = Means-keeps t u g0 lo dt du keeps_u a.ok in
    let w : Store = g.N.Nodes.store c.split_at.new.nodes in
    let dw = g.met.N.Nodes.diagram c.split_at.new.nodes in
    let made : Ref = c.in_ok-made.made in
    let e : Built (f ∷ []) (HasFunction f) s w (Ok made) = made_turn s v ds le r n c.requires.held at low u w lo hi (Ok made) du dw so2 mlo b.ok c.in_ok-made.ensures in
    e

pub returns-clause-met : goal.returns-clause-met
returns-clause-met g t0 c =
    let s : Store = g.N.Nodes.store c.args.nodes.now in
    let s1 : Store = g.N.Nodes.store c.node-node.new.self in
    let t : Store = g.N.Nodes.store c.some_of.new.nodes in
    let ds = g.met.N.Nodes.diagram c.args.nodes.now in
    let d1 = g.met.N.Nodes.diagram c.node-node.new.self in
    let dt = g.met.N.Nodes.diagram c.some_of.new.nodes in
    let v = c.args.vars in
    let le = c.requires.vars in
    let r : Ref = c.args.r in
    let n : Node = c.node-node.result in
    let at : s.held r ≡ Some n = c.node-node.ensures.node in
    let low : n.var < v = omega (arith, c.if-node-vars.false) in
    let f : Function = whole_of s v ds le r n c.requires.held at low in
    let g0 : Function = part_of s v ds le r n c.requires.held at low false in
    let so0 = same_so (f ∷ []) s s1 c.node-node.ensures.store in
    let lo : Ref = c.in_ok-lo.lo in
    let a : Built (f ∷ []) (HasFunction g0) s t (Ok lo) = half_turn s v ds le r n c.requires.held at low false s1 t (Ok lo) d1 dt so0 c.in_ok-lo.ensures.built in
    let so1 = first (f ∷ []) (HasFunction g0) s t (Ok lo) a in
    let u : Store = g.N.Nodes.store c.some_of-2.new.nodes in
    let du = g.met.N.Nodes.diagram c.some_of-2.new.nodes in
    let g1 : Function = part_of s v ds le r n c.requires.held at low true in
    let hi : Ref = c.in_ok-hi.hi in
    let b : Built (f ∷ []) (HasFunction g1) s u (Ok hi) = half_turn s v ds le r n c.requires.held at low true t u (Ok hi) dt du so1 c.in_ok-hi.ensures.built in
    let so2 = first (f ∷ []) (HasFunction g1) s u (Ok hi) b in
    let keeps_u : Keeps t u = c.in_ok-hi.ensures.built.spends.keeps in
    let mlo : Means u g0 lo = Means-keeps t u g0 lo dt du keeps_u a.ok in
    let w : Store = g.N.Nodes.store c.split_at.new.nodes in
    let dw = g.met.N.Nodes.diagram c.split_at.new.nodes in
    let made : Ref = c.in_ok-made.made in
    let e : Built (f ∷ []) (HasFunction f) s w (Ok made) = made_turn s v ds le r n c.requires.held at low u w lo hi (Ok made) du dw so2 mlo b.ok c.in_ok-made.ensures in
    let so3 = first (f ∷ []) (HasFunction f) s w (Ok made) e in
    met_more w v c.some_of-2.new.met c.remember.new.met r made (IsFrom-grows s.held w.held 0 r so3.keeps.grows c.requires.held)
    (subst (λ (h : Function). Means w h made) (sym (behind_keeps s w v r ds dw so3.keeps c.requires.held)) e.ok) c.in_ok-remember.ensures
    (met_keep u w v c.some_of-2.new.met du dw (c.in_ok-made.ensures f (split_turn s v ds le r n c.requires.held at low u lo hi du so2.keeps mlo b.ok)).keeps c.in_ok-hi.ensures.met)

pub returns-in_err-remember-clause-built : goal.returns-in_err-remember-clause-built
returns-in_err-remember-clause-built g t0 c =
    let s : Store = g.N.Nodes.store c.args.nodes.now in
    let s1 : Store = g.N.Nodes.store c.node-node.new.self in
    let t : Store = g.N.Nodes.store c.some_of.new.nodes in
    let ds = g.met.N.Nodes.diagram c.args.nodes.now in
    let d1 = g.met.N.Nodes.diagram c.node-node.new.self in
    let dt = g.met.N.Nodes.diagram c.some_of.new.nodes in
    let v = c.args.vars in
    let le = c.requires.vars in
    let r : Ref = c.args.r in
    let n : Node = c.node-node.result in
    let at : s.held r ≡ Some n = c.node-node.ensures.node in
    let low : n.var < v = omega (arith, c.if-node-vars.false) in
    let f : Function = whole_of s v ds le r n c.requires.held at low in
    let g0 : Function = part_of s v ds le r n c.requires.held at low false in
    let so0 = same_so (f ∷ []) s s1 c.node-node.ensures.store in
    let lo : Ref = c.in_ok-lo.lo in
    let a : Built (f ∷ []) (HasFunction g0) s t (Ok lo) = half_turn s v ds le r n c.requires.held at low false s1 t (Ok lo) d1 dt so0 c.in_ok-lo.ensures.built in
    let so1 = first (f ∷ []) (HasFunction g0) s t (Ok lo) a in
    let u : Store = g.N.Nodes.store c.some_of-2.new.nodes in
    let du = g.met.N.Nodes.diagram c.some_of-2.new.nodes in
    let g1 : Function = part_of s v ds le r n c.requires.held at low true in
    let hi : Ref = c.in_ok-hi.hi in
    let b : Built (f ∷ []) (HasFunction g1) s u (Ok hi) = half_turn s v ds le r n c.requires.held at low true t u (Ok hi) dt du so1 c.in_ok-hi.ensures.built in
    let so2 = first (f ∷ []) (HasFunction g1) s u (Ok hi) b in
    let keeps_u : Keeps t u = c.in_ok-hi.ensures.built.spends.keeps in
    let mlo : Means u g0 lo = Means-keeps t u g0 lo dt du keeps_u a.ok in
    let w : Store = g.N.Nodes.store c.split_at.new.nodes in
    let dw = g.met.N.Nodes.diagram c.split_at.new.nodes in
    let made : Ref = c.in_ok-made.made in
    let e : Built (f ∷ []) (HasFunction f) s w (Ok made) = made_turn s v ds le r n c.requires.held at low u w lo hi (Ok made) du dw so2 mlo b.ok c.in_ok-made.ensures in
    lost (f ∷ []) (HasFunction f) s w c.from_residual-in_err-remember.result (first (f ∷ []) (HasFunction f) s w (Ok made) e) c.from_residual-in_err-remember.ensures.1

pub some_of-requires : goal.some_of-requires
some_of-requires g t0 c κs within =
    let s : Store = g.N.Nodes.store c.args.nodes.now in
    let d = g.met.N.Nodes.diagram c.args.nodes.now in
    let n = c.node-node.result in
    let u : Store = g.N.Nodes.store c.node-node.new.self in
    let e = c.node-node.ensures.store in (
      falls_in s u n c.args.r false t0 d e c.node-node.ensures.node c.decreases,
      (
        within,
        (
          ref_in s u n c.args.r false d e c.node-node.ensures.node,
          (subst (λ (x : Store). c.args.vars ≤ x.vars) (sym e) c.requires.vars, subst (λ (x : Store). AreMet x c.args.vars c.args.met.now) (sym e) c.requires.met),
        ),
      ),
    )

pub some_of-requires-2 : goal.some_of-requires-2
some_of-requires-2 g t0 c κs within =
    let s : Store = g.N.Nodes.store c.args.nodes.now in
    let d = g.met.N.Nodes.diagram c.args.nodes.now in
    let n = c.node-node.result in
    let s1 : Store = g.N.Nodes.store c.node-node.new.self in
    let t : Store = g.N.Nodes.store c.some_of.new.nodes in
    let k1 : Keeps s s1 = same_keeps s s1 c.node-node.ensures.store in
    let k2 : Keeps s1 t = c.in_ok-lo.ensures.built.spends.keeps in
    let k : Keeps s t = Keeps-trans s s1 t k1 k2 in
    let vars : t.vars ≡ s.vars = k.vars in
    let low : n.var < c.args.vars = omega (arith, c.if-node-vars.false) in (
      falls_later s t n c.args.r t0 d (g.met.N.Nodes.diagram c.some_of.new.nodes) k c.node-node.ensures.node c.decreases,
      (
        within,
        (
          IsFrom-grows s.held t.held 0 n.hi k.grows (child_ref s c.args.vars d c.requires.vars c.args.r n c.node-node.ensures.node low true),
          (let le = c.requires.vars in omega (arith, le, vars), c.in_ok-lo.ensures.met),
        ),
      ),
    )
