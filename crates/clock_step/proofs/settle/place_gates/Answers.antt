use Rattle.std.proofs.Common.{◌≡◌, ◌∙◌, ◌<◌, ℕ, List, map, length, get_or, arith, refl, ap}
use Rattle.std.proofs.lemmas.List.{length-set}
use Rattle.ste_base.specs.declared.id.NodeId.{NodeId}
use Rattle.net_core.specs.declared.raw.Gate.{Gate}
use Rattle.clock_step.specs.Determined.{bit_at}
use Rattle.clock_step.proofs.Settling.{gate_done}
use Rattle.clock_step.proofs.settle.place_gates.Goals as goal

pub loop-n-preserved : goal.loop-n-preserved
loop-n-preserved c =
    let net = c.args.net.now in
    let n = c.loop-n.n in
    let bits = c.loop-n.bits in
    let gate = c.index-gates-number.result in
    let within : n < length net.settled = let same = ap length c.settled-number-items.ensures.same in omega (arith, same, c.loop-n-test.true) in
    let is : gate ≡ get_or net.raw.gates (get_or net.settled n 0) gate =
    c.index-gates-number.is ∙ ap (λ (xs : List Gate). get_or xs (get_or c.settled-number-items.result.now n 0) gate) c.gates.ensures
    ∙ ap (λ (xs : List ℕ). get_or net.raw.gates (get_or xs n 0) gate) c.settled-number-items.ensures.same in
    let ids : List NodeId = c.as_slice.result.now in
    let are : map (λ (input : NodeId). bit_at bits input.0) ids ≡ map (λ (input : NodeId). bit_at bits input.0) gate.inputs = ap (λ (xs : List NodeId). map (λ (input : NodeId). bit_at bits input.0) xs) c.as_slice.ensures in
    record {
      long = length-set bits gate.output.0 c.cover_bit-bit.result ∙ c.loop-n.invariant.long;
      settled = λ bit follow begin.
          gate_done net.raw net.settled bit net.in_range net.in_order follow n (get_or net.settled n 0) gate c.cover.result.now (map (λ (input : NodeId). bit_at bits input.0) ids) c.cover_bit-bit.result bits
          c.loop-n.invariant.long within refl is c.cover.ensures are c.cover_bit-bit.ensures (c.loop-n.invariant.settled bit follow begin);
    }

pub returns : goal.returns
returns c = λ bit follow begin id l none.
    c.loop-n.invariant.settled bit follow begin id l
    (λ k d m. none k d (let same = ap length c.settled-number-items.ensures.same in omega (arith, same, m, c.loop-n-test.false)))
