use Rattle.std.proofs.Common.{◌≡◌, ◌∙◌, ◌<◌, ℕ, List, All, length, get_or, arith, ap, sym, subst}
use Rattle.std.proofs.lemmas.List.{get_or_default}
use Rattle.ste_base.specs.declared.id.NodeId.{NodeId}
use Rattle.net_core.specs.declared.raw.Gate.{Gate}
use Rattle.clock_step.proofs.Chains.{gate_added, slot_added}
use Rattle.clock_step.proofs.readers.Readers.add_gate.Goals as goal

pub loop-input-preserved : goal.loop-input-preserved
loop-input-preserved c =
    let net = c.args.net.now in
    let n = c.args.place in
    let gate : Gate = c.index-gates-number.result in
    let is : gate ≡ get_or net.raw.gates (get_or net.settled n 0) gate =
    c.index-gates-number.is ∙ ap (λ (xs : List Gate). get_or xs (get_or c.settled.result.now n 0) gate) c.gates.ensures
    ∙ ap (λ (xs : List ℕ). get_or net.raw.gates (get_or xs n 0) gate) c.settled.ensures.same in
    let known : get_or net.settled n 0 < length net.raw.gates = net.in_order.gates n 0 c.requires.place in
    let zeroth : NodeId = record { 0 = 0 } in
    let j = c.loop-input.input-index in
    let inputs : List NodeId = c.as_slice-input-items.result.now in
    let input : NodeId = get_or inputs j zeroth in
    let inside : j < length gate.inputs = let same = ap (λ (xs : List NodeId). length xs) c.as_slice-input-items.ensures in omega (arith, same, c.loop-input-test.true) in
    let input_is : input ≡ get_or gate.inputs j input = ap (λ (xs : List NodeId). get_or xs j zeroth) c.as_slice-input-items.ensures ∙ get_or_default gate.inputs j zeroth input inside in
    let all_known : All (λ x. x.0 < net.raw.nets) gate.inputs = subst (λ (x : Gate). All (λ y. y.0 < net.raw.nets) x.inputs) (sym is) (net.in_range.gate_inputs (get_or net.settled n 0) gate known) in
    let input_known : input.0 < net.raw.nets = subst (λ (x : NodeId). x.0 < net.raw.nets) (sym input_is) (all_known j input inside) in
    slot_added net.raw net.settled n j c.loop-input.self c.add.new.self gate input c.requires.place
    (λ d. get_or_default net.raw.gates (get_or net.settled n 0) d gate known ∙ sym is)
    inside input_is input_known c.in_ok-add.ensures.heads c.in_ok-add.ensures.places c.in_ok-add.ensures.nexts c.loop-input.invariant

pub returns : goal.returns
returns c =
    let net = c.args.net.now in
    let n = c.args.place in
    let gate : Gate = c.index-gates-number.result in
    let is : gate ≡ get_or net.raw.gates (get_or net.settled n 0) gate =
    c.index-gates-number.is ∙ ap (λ (xs : List Gate). get_or xs (get_or c.settled.result.now n 0) gate) c.gates.ensures
    ∙ ap (λ (xs : List ℕ). get_or net.raw.gates (get_or xs n 0) gate) c.settled.ensures.same in
    let known : get_or net.settled n 0 < length net.raw.gates = net.in_order.gates n 0 c.requires.place in
    let same = ap (λ (xs : List NodeId). length xs) c.as_slice-input-items.ensures in
    gate_added net.raw net.settled n c.loop-input.input-index c.loop-input.self gate
    (λ d. get_or_default net.raw.gates (get_or net.settled n 0) d gate known ∙ sym is)
    (omega (arith, same, c.loop-input-test.false)) c.loop-input.invariant
