use Rattle.clock_step.proofs.resettle.place_gates.Goals as goal

pub loop-place-preserved : goal.loop-place-preserved
loop-place-preserved c = c.place_gate.ensures c.args.bits.now c.loop-place.invariant
