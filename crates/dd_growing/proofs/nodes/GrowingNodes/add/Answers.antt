use Rattle.std.proofs.Common.{length, ◌≡◌, ◌≢◌, ◌<◌, ◌+◌, ℕ, List, Vec, Global, sym, ap, subst, arith}
use Rattle.std.specs.Prelude.{Some}
use Rattle.dd_nodes.specs.declared.node.Ref.{Ref}
use Rattle.dd_nodes.specs.declared.node.Node.{Node}
use Rattle.dd_nodes.specs.Diagram.{IsFrom}
use Rattle.dd_nodes.specs.Plain.{plain_held}
use Rattle.dd_growing.proofs.GrowingSteps.{IsAdded, added}
use Rattle.dd_growing.proofs.nodes.GrowingNodes.add.Goals as goal

all : (c : goal.After-put_into) → IsAdded c.make_room.new.self.nodes.items c.push.new.self.items c.put_into.new.table.items c.make_room.new.self.base c.make_room.new.self.limit c.make_room.new.self.vars c.make_room.new.self.recent
all c =
    let q = c.requires in
    let t = c.make_room.new.self in
    let same = c.make_room.ensures.same in
    let nodes : t.nodes.items ≡ c.args.self.now.nodes.items = ap (λ (v : Vec Node Global). v.items) same.0 in
    added t.nodes.items c.push.new.self.items t.slots.items c.put_into.new.table.items c.args.node c.len-2.result t.base t.limit t.vars t.recent
    c.in_ok-push.ensures.items (let ok = t.nodes.ok.0 in omega (arith, c.len-2.ensures))
    (let ok = t.nodes.ok.0 in let ok' = c.args.self.now.nodes.ok.0 in let one = ap (λ (xs : List Node). length xs) nodes in let most = c.if-len-ge-MOST.false in omega (arith, c.len.ensures, c.len-2.ensures, one, most)) c.put_into.ensures t.ordered t.indexed t.counted t.right
    (subst (λ (xs : List Node). (r : Ref) → plain_held xs r ≢ Some c.args.node) (sym nodes) q.absent)
    (subst (λ (v : ℕ). c.args.node.var < v) (sym same.3) q.below)
    q.differ
    (subst (λ (xs : List Node). IsFrom (plain_held xs) (c.args.node.var + 1) c.args.node.lo) (sym nodes) q.low)
    (subst (λ (xs : List Node). IsFrom (plain_held xs) (c.args.node.var + 1) c.args.node.hi) (sym nodes) q.high)

pub invariant_of-self-2-clause-ordered : goal.invariant_of-self-2-clause-ordered
invariant_of-self-2-clause-ordered c = (all c).ordered

pub invariant_of-self-2-clause-indexed : goal.invariant_of-self-2-clause-indexed
invariant_of-self-2-clause-indexed c = (all c).indexed

pub invariant_of-self-2-clause-right : goal.invariant_of-self-2-clause-right
invariant_of-self-2-clause-right c = (all c).right

pub invariant_of-self-2-clause-counted : goal.invariant_of-self-2-clause-counted
invariant_of-self-2-clause-counted c = (all c).counted
