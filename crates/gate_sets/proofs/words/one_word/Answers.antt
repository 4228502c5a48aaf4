use Rattle.std.proofs.Common.{◌≡◌, ◌/◌, ◌^◌, ◌∙◌, ap, arith, sym}
use Rattle.std.specs.Int.{bit_at}
use Rattle.gate_sets.proofs.WordBits.{agreed, one_first, one_second, one_third}
use Rattle.gate_sets.proofs.words.one_word.Goals as goal

pub returns-then-place-eq0 : goal.returns-then-place-eq0
returns-then-place-eq0 c = λ choice l. agreed 64 14757395258967641292 0 1 choice one_first l ∙ ap (λ place. bit_at (choice / 4 ^ place) 1) (sym c.if-place-eq0.true)

pub returns-then-place-eq1 : goal.returns-then-place-eq1
returns-then-place-eq1 c = λ choice l. agreed 64 18374966859414961920 1 1 choice one_second l ∙ ap (λ place. bit_at (choice / 4 ^ place) 1) (sym c.if-place-eq1.true)

pub returns-else-place-eq1 : goal.returns-else-place-eq1
returns-else-place-eq1 c = λ choice l.
    let last : 2 ≡ c.args.place = omega (arith, c.requires, c.if-place-eq0.false, c.if-place-eq1.false) in
    agreed 64 18446744069414584320 2 1 choice one_third l ∙ ap (λ place. bit_at (choice / 4 ^ place) 1) last
