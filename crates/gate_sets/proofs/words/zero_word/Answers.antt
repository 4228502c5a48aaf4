use Rattle.std.proofs.Common.{◌≡◌, ◌/◌, ◌^◌, ◌∙◌, ap, arith, sym}
use Rattle.std.specs.Int.{bit_at}
use Rattle.gate_sets.proofs.WordBits.{agreed, zero_first, zero_second, zero_third}
use Rattle.gate_sets.proofs.words.zero_word.Goals as goal

pub returns-then-place-eq0 : goal.returns-then-place-eq0
returns-then-place-eq0 c = λ choice l. agreed 64 12297829382473034410 0 0 choice zero_first l ∙ ap (λ place. bit_at (choice / 4 ^ place) 0) (sym c.if-place-eq0.true)

pub returns-then-place-eq1 : goal.returns-then-place-eq1
returns-then-place-eq1 c = λ choice l. agreed 64 17361641481138401520 1 0 choice zero_second l ∙ ap (λ place. bit_at (choice / 4 ^ place) 0) (sym c.if-place-eq1.true)

pub returns-else-place-eq1 : goal.returns-else-place-eq1
returns-else-place-eq1 c = λ choice l.
    let last : 2 ≡ c.args.place = omega (arith, c.requires, c.if-place-eq0.false, c.if-place-eq1.false) in
    agreed 64 18446462603027742720 2 0 choice zero_third l ∙ ap (λ place. bit_at (choice / 4 ^ place) 0) last
