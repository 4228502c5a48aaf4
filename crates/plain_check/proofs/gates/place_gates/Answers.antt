use Rattle.std.proofs.Common.{◌≡◌, ◌∙◌, ◌<◌, ℕ, Bool, false, List, length, get_or, arith, refl, ap, subst}
use Rattle.std.proofs.lemmas.List.{length-set}
use Rattle.net_core.specs.declared.bit_set.BitSet.{BitSet}
use Rattle.net_core.specs.declared.raw.Gate.{Gate}
use Rattle.plain_check.proofs.Gated.{GivesUnless, gate_done}
use Rattle.plain_check.proofs.gates.place_gates.Goals as goal

pub loop-n-preserved : goal.loop-n-preserved
loop-n-preserved c =
    let net = c.args.net.now in
    let n = c.loop-n.n in
    let sets = c.loop-n.sets.items in
    let gate = c.index-gates-number.result in
    let found = c.in_ok-found.found in
    let within : n < length net.settled = let same = ap length c.settled-number-items.ensures.same in omega (arith, same, c.loop-n-test.true) in
    let is : gate ≡ get_or net.raw.gates (get_or net.settled n 0) gate =
    c.index-gates-number.is ∙ ap (λ (xs : List Gate). get_or xs (get_or c.settled-number-items.result.now n 0) gate) c.gates.ensures
    ∙ ap (λ (xs : List ℕ). get_or net.raw.gates (get_or xs n 0) gate) c.settled-number-items.ensures.same in
    let weak = c.args.weak.now in
    let flag = get_or weak gate.output.0 false in
    let gives : (bit : Bool) → GivesUnless flag net.raw sets gate found bit = λ bit.
    subst (λ (s : List BitSet). GivesUnless flag net.raw s gate found bit)
    c.deref.ensures.value (c.in_ok-found.ensures bit) in
    record {
      long = length-set sets gate.output.0 c.meet-set.result ∙ c.loop-n.invariant.long;
      sets = λ held asked family long allows flags possible begin.
          let none : BitSet = record { zero = false; one = false } in
          let before = c.loop-n.invariant.sets held asked family long allows flags possible begin in
          gate_done net.raw net.settled held asked weak c.args.allowed.now family
          net.in_range net.one_driver net.in_order long c.requires.allowed allows flags possible
          n (get_or net.settled n 0) gate none found c.meet-set.result sets
          c.loop-n.invariant.long within refl is gives c.meet-set.ensures before;
    }

pub returns-clause-sets : goal.returns-clause-sets
returns-clause-sets c = λ held asked family long allows flags possible begin id l none.
    c.loop-n.invariant.sets held asked family long allows flags possible begin id l
    (λ k d m. none k d (let same = ap length c.settled-number-items.ensures.same in omega (arith, same, m, c.loop-n-test.false)))
