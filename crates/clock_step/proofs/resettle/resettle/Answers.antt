use Rattle.clock_step.proofs.Resettling.{all_bits, none_left, outputs_apart, outputs_by_latch, outputs_known}
use Rattle.clock_step.proofs.resettle.resettle.Goals as goal

pub place_nodes-requires-clause-by_gate : goal.place_nodes-requires-clause-by_gate
place_nodes-requires-clause-by_gate c = λ k d l. (c.requires.undriven k d l).by_gate

pub place_nodes-requires-2-clause-within : goal.place_nodes-requires-2-clause-within
place_nodes-requires-2-clause-within c = let net = c.args.net.now in outputs_known net.raw c.args.outputs.now c.requires.outputs net.in_range

pub place_nodes-requires-2-clause-different : goal.place_nodes-requires-2-clause-different
place_nodes-requires-2-clause-different c = let net = c.args.net.now in outputs_apart net.raw c.args.outputs.now c.requires.outputs net.one_driver

pub place_nodes-requires-2-clause-by_gate : goal.place_nodes-requires-2-clause-by_gate
place_nodes-requires-2-clause-by_gate c = let net = c.args.net.now in outputs_by_latch net.raw c.args.outputs.now c.requires.outputs net.one_driver

pub returns-clause-unmarked : goal.returns-clause-unmarked
returns-clause-unmarked c = let net = c.args.net.now in none_left net.raw net.settled net.in_order c.place_nodes-2.new.bits c.place_gates.new.bits c.place_gates.new.due c.place_gates.ensures

pub returns-clause-bits : goal.returns-clause-bits
returns-clause-bits c = λ bit is id l.
    let net = c.args.net.now in
    all_bits net.raw net.settled net.in_range net.one_driver net.in_order c.args.nodes.now c.args.outputs.now c.args.row.now c.args.held.now c.args.bits.now c.place_nodes.new.bits c.place_nodes-2.new.bits c.place_gates.new.bits c.place_gates.new.due
    c.place_nodes.new.due c.place_nodes-2.new.due c.requires.undriven c.requires.every c.requires.wide c.requires.outputs c.place_nodes.ensures c.place_nodes-2.ensures c.place_gates.ensures bit is id l
