use Rattle.std.proofs.Common.{◌<◌, List, ap, arith, get_or, length, ◌∙◌}
use Rattle.net_core.specs.declared.raw.Gate.{Gate}
use Rattle.sym_step.proofs.Reading.{added_start, added_then, gates_next}
use Rattle.sym_step.proofs.readers.Readers.add_gates.Goals as goal

pub overflow_cast-number : goal.overflow_cast-number
overflow_cast-number c =
    let few = c.requires.few in
    let same = ap (λ (xs : List Gate). length xs) c.gates-gates.ensures in
    omega (arith, few, same, c.loop-number-test.true)

pub loop-number-init : goal.loop-number-init
loop-number-init c = record { added = added_start c.args.self.now; here = λ k d lt. absurd (omega (arith, lt)) }

pub loop-number-preserved : goal.loop-number-preserved
loop-number-preserved c =
    let gates : List Gate = c.args.net.now.raw.gates in
    let n = c.loop-number.number in
    let gate : Gate = c.index-gates-number.result in
    let inv = c.loop-number.invariant in
    let lt : n < length gates = let same = ap (λ (xs : List Gate). length xs) c.gates-gates.ensures in omega (arith, same, c.loop-number-test.true) in
    let p = c.in_ok-add_gate.ensures in
    record {
      added = added_then c.args.self.now c.loop-number.self c.add_gate.new.self inv.added p.added;
      here = gates_next gates c.loop-number.self c.add_gate.new.self n gate lt (c.index-gates-number.is ∙ ap (λ (xs : List Gate). get_or xs n gate) c.gates-gates.ensures) p.added inv.here p.here;
    }

pub returns-clause-here : goal.returns-clause-here
returns-clause-here c = λ k d lt. c.loop-number.invariant.here k d (let same = ap (λ (xs : List Gate). length xs) c.gates-gates.ensures in omega (arith, same, lt, c.loop-number-test.false))
