use Rattle.std.proofs.Common.{◌∙◌, ap, get_or, inl, inr, false, []}
use Rattle.hierarchy.specs.declared.fault.NetFault.TheVariants.{DrivenTwice}
use Rattle.flat_net.proofs.Marks.{refused_again}
use Rattle.flat_net.proofs.drivers.refuse_in.Goals as goal

pub returns-then-mark-clause-err : goal.returns-then-mark-clause-err
returns-then-mark-clause-err c = elim c.driven_twice.ensures [
  | inl wanting ↦ inl wanting
  | inr is ↦ inr (λ rest. refused_again c.args.instance.now c.as_slice-item-items.result.now c.loop-item.item-index c.item-item.result c.loop-item-test.true c.loop-item.marks.items c.args.marks.now.items c.loop-item.invariant
      c.item-item.is c.in-Some.output.now c.in-Some.ensures c.mark.result (c.mark.ensures.was ∙ ap (λ n. get_or c.loop-item.marks.items n.0 false) c.node_in-node.ensures) c.if-mark.true
      c.args.names.now c.driven_twice.result (is ∙ ap (λ n. DrivenTwice c.item-item.result.line (get_or c.args.names.now n.0 [])) c.node_in-node.ensures) rest)
]
