use Rattle.std.proofs.Common.{◌≡◌, ◌-◌, ◌/◌, ◌^◌, ◌∙◌, ap, arith, sym}
use Rattle.std.specs.Int.{bit_at}
use Rattle.std.proofs.lemmas.Nat.Bits.{bit_at_ones}
use Rattle.net_core.specs.declared.cover.Lit.{Lit}
use Rattle.gate_sets.specs.declared.words.Digits.TheVariants.{Bits}
use Rattle.gate_sets.specs.private.Words.{lit_bit}
use Rattle.gate_sets.proofs.WordBits.{lowest}
use Rattle.gate_sets.proofs.words.bit_word.Goals as goal

pub returns-in-Zero : goal.returns-in-Zero
returns-in-Zero c = λ choice l.
    let place = c.args.place in
    let sum = c.zeros.ensures.bits choice l in
    let digit = lowest choice place in
    let other : bit_at c.zeros.result choice ≡ 1 - bit_at (choice / 2 ^ place) 0 = omega (arith, sum, digit) in
    other ∙ ap (λ (lit : Lit). lit_bit Bits lit (choice / 2 ^ place)) (sym c.in-Zero.is)

pub returns-in-One : goal.returns-in-One
returns-in-One c = λ choice l.
    c.ones.ensures.bits choice l ∙ lowest choice c.args.place ∙ ap (λ (lit : Lit). lit_bit Bits lit (choice / 2 ^ c.args.place)) (sym c.in-One.is)

pub returns-in-Any : goal.returns-in-Any
returns-in-Any c = λ choice l. bit_at_ones 64 choice l ∙ ap (λ (lit : Lit). lit_bit Bits lit (choice / 2 ^ c.args.place)) (sym c.in-Any.is)
