use Rattle.std.proofs.Common.{true, false, ◌∙◌, sym}
use Rattle.dd_nodes.specs.Stores.{Store}
use Rattle.dd_nodes.proofs.Walks.{walk-constant}
use Rattle.dd_query.proofs.Room.{child_ref, held_in, value_below}
use Rattle.dd_query.proofs.evaluation.eval.Goals as goal

pub loop-at-preserved-then-bits-node : goal.loop-at-preserved-then-bits-node
loop-at-preserved-then-bits-node g c =
    let s : Store = g.N.Nodes.store c.args.nodes.now in
    let n = c.node-node.result in
    let r = c.loop-at.at in
    let d = g.met.N.Nodes.diagram c.args.nodes.now in
    let at = held_in s (g.N.Nodes.store c.loop-at.nodes) n r c.loop-at.invariant.store c.node-node.ensures.node in
    record {
      store = c.node-node.ensures.store ∙ c.loop-at.invariant.store;
      ref = child_ref s n r d at true;
      value = value_below s n r c.args.bits.now true d at c.requires.long c.if-bits-node.true ∙ c.loop-at.invariant.value;
    }

pub loop-at-preserved : goal.loop-at-preserved
loop-at-preserved g c =
    let s : Store = g.N.Nodes.store c.args.nodes.now in
    let n = c.node-node.result in
    let r = c.loop-at.at in
    let d = g.met.N.Nodes.diagram c.args.nodes.now in
    let at = held_in s (g.N.Nodes.store c.loop-at.nodes) n r c.loop-at.invariant.store c.node-node.ensures.node in
    record {
      store = c.node-node.ensures.store ∙ c.loop-at.invariant.store;
      ref = child_ref s n r d at false;
      value = value_below s n r c.args.bits.now false d at c.requires.long c.if-bits-node.false ∙ c.loop-at.invariant.value;
    }

pub returns-clause-value : goal.returns-clause-value
returns-clause-value g c =
    let s : Store = g.N.Nodes.store c.args.nodes.now in
    c.eq.ensures
    ∙ sym (walk-constant s.held s.vars 0 c.loop-at.at c.args.bits.now (g.met.N.Nodes.diagram c.args.nodes.now) c.loop-at-test.false)
    ∙ c.loop-at.invariant.value
