use Rattle.std.proofs.Common.{◌<◌, length, arith}
use Rattle.clock_step.proofs.Resettling.{placed_new, placed_same}
use Rattle.clock_step.proofs.resettle.place_bit.Goals as goal

pub returns-then-bits-node : goal.returns-then-bits-node
returns-then-bits-node c = placed_same c.args.net.now.raw c.args.net.now.settled c.args.node.0 c.args.bit c.args.bits.now c.args.due.now c.if-bits-node.true

pub returns : goal.returns
returns c =
    let net = c.args.net.now in
    let inside : c.args.node.0 < length c.args.bits.now = omega (arith, c.requires.node, c.requires.long) in
    placed_new net.raw net.settled c.args.node.0 c.args.bit c.args.bits.now c.args.due.now c.mark.new.due inside c.mark.ensures
