use Rattle.std.proofs.Common.{◌≡◌, ◌+◌, ◌<◌, ◌∙◌, List, ap, arith, get_or, length, subst}
use Rattle.std.proofs.lemmas.List.{get_or_default}
use Rattle.net_core.specs.declared.raw.Gate.{Gate}
use Rattle.net_core.specs.declared.raw.Init.TheVariants.{Zero}
use Rattle.net_core.specs.declared.raw.Latch.{Latch}
use Rattle.sym_step.specs.private.Readers.{IsBetween}
use Rattle.sym_step.proofs.Reading.{added_start, added_then, between_next}
use Rattle.sym_step.proofs.readers.Readers.add_latches.Goals as goal

pub overflow_cast-gates : goal.overflow_cast-gates
overflow_cast-gates c =
    let few = c.requires.few in
    let gates = ap (λ (xs : List Gate). length xs) c.gates-gates.ensures in
    let latches = ap (λ (xs : List Latch). length xs) c.latches-latches.ensures in
    omega (arith, few, gates, latches, c.loop-number-test.true)

pub loop-number-init : goal.loop-number-init
loop-number-init c = record { added = added_start c.args.self.now; here = λ k d lt. absurd (omega (arith, lt)) }

pub loop-number-preserved : goal.loop-number-preserved
loop-number-preserved c =
    let net = c.args.net.now.raw in
    let latches : List Latch = net.latches in
    let zeroth : Latch = record { input = record { 0 = 0 }; output = record { 0 = 0 }; init = Zero } in
    let n = c.loop-number.number in
    let latch : Latch = get_or c.latches-latches.result.now n zeroth in
    let inv = c.loop-number.invariant in
    let inside : n < length latches = let same = ap (λ (xs : List Latch). length xs) c.latches-latches.ensures in omega (arith, same, c.loop-number-test.true) in
    let is : latch ≡ get_or latches n latch = ap (λ (xs : List Latch). get_or xs n zeroth) c.latches-latches.ensures ∙ get_or_default latches n zeroth latch inside in
    let p = c.in_ok-add_latch.ensures in
    let same_gates : length c.gates-gates.result.now ≡ length net.gates = ap (λ (xs : List Gate). length xs) c.gates-gates.ensures in
    record {
      added = added_then c.args.self.now c.loop-number.self c.add_latch.new.self inv.added p.added;
      here = between_next (length net.gates) latches c.loop-number.self c.add_latch.new.self n latch inside is p.added inv.here (subst (λ m. IsBetween c.add_latch.new.self (m + n) latch) same_gates p.here);
    }

pub returns-clause-here : goal.returns-clause-here
returns-clause-here c = λ k d lt. c.loop-number.invariant.here k d (let same = ap (λ (xs : List Latch). length xs) c.latches-latches.ensures in omega (arith, same, lt, c.loop-number-test.false))
