use Rattle.std.proofs.Common.{ℕ, ◌≡◌, ◌≢◌, ◌-◌, Bool, List, false, refl, sym, ◌∙◌, subst, length, inr, arith}
use Rattle.std.specs.Prelude.{◌==◌, Some}
use Rattle.std.proofs.lemmas.Bool.{eqb-false}
use Rattle.dd_nodes.specs.declared.node.Ref.{Ref}
use Rattle.dd_nodes.specs.declared.node.Node.{Node}
use Rattle.dd_nodes.specs.Plain.{plain_held}
use Rattle.dd_nodes.specs.Stores.{node_of}
use Rattle.dd_growing.specs.private.Slots.{IsOnWalk, hash_of, slot_of}
use Rattle.dd_growing.proofs.GrowingSteps.{IsRefused-full, IsRefused-room, Pushes-keeps, Pushes-made, Pushes-stands, absent_of}
use Rattle.dd_growing.proofs.nodes.GrowingNodesNodes.mk.Goals as goal

-- the test of the children failed
apart : (lo hi : Ref) (same : Bool) → same ≡ (lo.0 == hi.0) → same ≡ false → lo.0 ≢ hi.0
apart lo hi same is failed = eqb-false lo.0 hi.0 (sym is ∙ failed)

pub returns-then-len-self-clause-out : goal.returns-then-len-self-clause-out
returns-then-len-self-clause-out c =
    let s = c.args.self.now in
    let ok = s.nodes.ok.0 in
    let node : Node = node_of c.args.var c.args.lo c.args.hi in
    let full : length s.nodes.items - s.base ≡ s.limit = omega (arith, c.len.ensures, c.if-len-self.true) in (
      λ told. IsRefused-full s.nodes.items s.base s.limit s.vars c.args.var c.args.lo c.args.hi (apart c.args.lo c.args.hi _ c.eq.ensures c.if-eq.false) full
          (absent_of s.nodes.items s.slots.items node s.indexed
          (subst (λ (xs : List Node). (r : Ref) → IsOnWalk s.slots.items node (slot_of (hash_of node) r) → plain_held xs r ≡ Some node → ⊥) c.deref.ensures.value
          (subst (λ (ys : List ℕ). (r : Ref) → IsOnWalk ys node (slot_of (hash_of node) r) → plain_held c.deref.result.now r ≡ Some node → ⊥) c.deref-2.ensures.value c.in_default.ensures.none))),
      λ refused. refl,
    )

pub returns-in-Ok-clause-keeps : goal.returns-in-Ok-clause-keeps
returns-in-Ok-clause-keeps c =
    let s = c.args.self.now in
    let t = c.add.new.self in
    Pushes-keeps s.nodes.items t.nodes.items (node_of c.args.var c.args.lo c.args.hi) c.in-Ok.r s.base s.limit s.vars t.base t.limit t.vars c.in-Ok.ensures.ok c.in-Ok.ensures.vars

pub returns-in-Ok-clause-ok : goal.returns-in-Ok-clause-ok
returns-in-Ok-clause-ok c =
    let t = c.add.new.self in
    Pushes-stands c.args.self.now.nodes.items t.nodes.items c.args.var c.args.lo c.args.hi c.in-Ok.r t.base t.limit t.vars (apart c.args.lo c.args.hi _ c.eq.ensures c.if-eq.false) c.in-Ok.ensures.ok

pub returns-in-Ok-clause-new : goal.returns-in-Ok-clause-new
returns-in-Ok-clause-new c =
    let s = c.args.self.now in
    let t = c.add.new.self in
    inr (Pushes-made s.nodes.items t.nodes.items (node_of c.args.var c.args.lo c.args.hi) c.in-Ok.r s.base t.base c.in-Ok.ensures.base s.begun c.in-Ok.ensures.ok)

pub returns-in-Ok-clause-out : goal.returns-in-Ok-clause-out
returns-in-Ok-clause-out c =
    let s = c.args.self.now in
    let room : length s.nodes.items - s.base ≢ s.limit = omega (arith, c.len.ensures, c.if-len-self.false) in
    (λ e. cc, λ refused. absurd (IsRefused-room s.nodes.items s.base s.limit s.vars c.args.var c.args.lo c.args.hi room refused))

pub returns-in-Err-clause-out : goal.returns-in-Err-clause-out
returns-in-Err-clause-out c =
    let s = c.args.self.now in
    let room : length s.nodes.items - s.base ≢ s.limit = omega (arith, c.len.ensures, c.if-len-self.false) in
    (λ e. cc, λ refused. absurd (IsRefused-room s.nodes.items s.base s.limit s.vars c.args.var c.args.lo c.args.hi room refused))
