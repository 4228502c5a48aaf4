use Rattle.std.proofs.Common.{◌≤◌, List, ap, ◌∙◌, arith}
use Rattle.dd_nodes.specs.declared.node.Node.{Node}
use Rattle.dd_growing.specs.Growing.{grown_store}
use Rattle.dd_growing.specs.private.Slots.{taken}
use Rattle.dd_recent.proofs.Remembering.{AreRight-none}
use Rattle.dd_growing.proofs.GrowingSteps.{IsIndexed-fresh, empty_grown}
use Rattle.dd_growing.proofs.nodes.GrowingNodes.new.Goals as goal

pub invariant_of-result-clause-right : goal.invariant_of-result-clause-right
invariant_of-result-clause-right c = AreRight-none (grown_store c.new.result.items 0 c.args.limit c.args.vars) c.none.result c.none.ensures

pub invariant_of-result-clause-indexed : goal.invariant_of-result-clause-indexed
invariant_of-result-clause-indexed c = IsIndexed-fresh c.new.result.items c.in_ok-table_of.field-0.items c.new.ensures.items c.in_ok-table_of.ensures.has

pub invariant_of-result-clause-counted : goal.invariant_of-result-clause-counted
invariant_of-result-clause-counted c =
    let less : taken c.in_ok-table_of.field-0.items ≤ 0 = c.in_ok-table_of.ensures.has.few in
    omega (arith, less)

pub returns : goal.returns
returns c = ap (λ (nodes : List Node). grown_store nodes 0 c.args.limit c.args.vars) c.new.ensures.items ∙ empty_grown c.args.limit c.args.vars
