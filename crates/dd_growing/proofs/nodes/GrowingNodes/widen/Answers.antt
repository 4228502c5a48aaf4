use Rattle.std.proofs.Common.{List, length, subst}
use Rattle.dd_nodes.specs.declared.node.Node.{Node}
use Rattle.dd_growing.specs.private.Slots.{HasFirst}
use Rattle.dd_growing.proofs.GrowingSteps.{IsIndexed-wider}
use Rattle.dd_growing.proofs.nodes.GrowingNodes.widen.Goals as goal

has : (c : goal.In_ok-self) → HasFirst c.args.self.now.nodes.items (length c.args.self.now.nodes.items) c.in_ok-self.field-0.items
has c = subst (λ (xs : List Node). HasFirst xs (length xs) c.in_ok-self.field-0.items) c.deref.ensures.value c.in_ok-self.ensures.has

pub invariant_of-self-clause-counted : goal.invariant_of-self-clause-counted
invariant_of-self-clause-counted c = (has c).few

pub invariant_of-self-clause-indexed : goal.invariant_of-self-clause-indexed
invariant_of-self-clause-indexed c =
    let s = c.args.self.now in
    IsIndexed-wider s.nodes.items s.slots.items c.in_ok-self.field-0.items (has c) s.indexed
