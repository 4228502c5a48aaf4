use Rattle.std.proofs.Common.{arith}
use Rattle.clock_step.proofs.Settling.{gates_begin, latches_begin}
use Rattle.clock_step.proofs.settle.settle.Goals as goal

pub returns : goal.returns
returns c = λ bit is.
    let net = c.args.net.now in
    λ id l. c.place_gates.ensures bit is.gates
    (gates_begin net.raw net.settled bit c.place_latches.new.bits net.in_order
    (c.place_latches.ensures bit is.latches
    (latches_begin net.raw c.args.nodes.now c.args.row.now c.args.held.now c.place_inputs.new.bits bit is c.place_inputs.ensures)))
    id l (λ k d le lt. absurd (omega arith))
