use Rattle.std.proofs.Common.{◌≡◌, ◌∙◌, ℕ, List, map, get_or, ap}
use Rattle.ste_base.specs.declared.id.NodeId.{NodeId}
use Rattle.net_core.specs.declared.raw.Gate.{Gate}
use Rattle.clock_step.specs.Determined.{bit_at}
use Rattle.clock_step.proofs.Resettling.{turn_done}
use Rattle.clock_step.proofs.resettle.place_gate.Goals as goal

pub returns : goal.returns
returns c = λ begun before.
    let net = c.args.net.now in
    let n = c.args.place in
    let bits = c.args.bits.now in
    let gate : Gate = c.index-gates-number.result in
    let is : gate ≡ get_or net.raw.gates (get_or net.settled n 0) gate =
    c.index-gates-number.is ∙ ap (λ (xs : List Gate). get_or xs (get_or c.settled.result.now n 0) gate) c.gates.ensures
    ∙ ap (λ (xs : List ℕ). get_or net.raw.gates (get_or xs n 0) gate) c.settled.ensures.same in
    let ids : List NodeId = c.as_slice.result.now in
    turn_done net.raw net.settled net.in_order net.one_driver n gate c.cover.result.now (map (λ (input : NodeId). bit_at bits input.0) ids) c.cover_bit-bit.result begun bits c.place_bit.new.bits c.args.due.now c.place_bit.new.due c.requires.place is
    c.cover.ensures (ap (λ (xs : List NodeId). map (λ (input : NodeId). bit_at bits input.0) xs) c.as_slice.ensures) c.cover_bit-bit.ensures c.place_bit.ensures before
