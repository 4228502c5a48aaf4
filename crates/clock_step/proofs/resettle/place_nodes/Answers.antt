use Rattle.std.proofs.Common.{false, get_or, refl}
use Rattle.std.proofs.lemmas.List.{get_or_default}
use Rattle.ste_base.specs.declared.id.NodeId.{NodeId}
use Rattle.clock_step.proofs.Resettling.{node_placed, nodes_begin}
use Rattle.clock_step.proofs.resettle.place_nodes.Goals as goal

pub loop-k-init : goal.loop-k-init
loop-k-init c =
    let net = c.args.net.now in
    nodes_begin net.raw net.settled net.in_order c.args.nodes.now c.args.row.now c.args.bits.now c.args.due.now c.requires.long c.requires.due c.requires.rest

pub loop-k-preserved : goal.loop-k-preserved
loop-k-preserved c =
    let net = c.args.net.now in
    let zeroth : NodeId = record { 0 = 0 } in
    let k = c.loop-k.k in
    let node = get_or c.args.nodes.now k zeroth in
    let b = get_or c.args.row.now k false in
    node_placed net.raw net.settled net.in_order c.args.nodes.now k node c.args.row.now c.args.bits.now c.loop-k.bits c.place_bit.new.bits c.loop-k.due c.place_bit.new.due b c.loop-k-test.true
    (get_or_default c.args.nodes.now k zeroth node c.loop-k-test.true) refl
    c.requires.different c.requires.by_gate c.loop-k.invariant c.place_bit.ensures
