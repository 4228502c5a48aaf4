use Rattle.std.proofs.Common.{◌/◌, ◌^◌, ◌∙◌, ap, max, sym}
use Rattle.std.proofs.lemmas.Nat.Bits.{bit_at_or}
use Rattle.std.specs.Int.{bit_at}
use Rattle.gate_sets.specs.private.Words.{lit_bit}
use Rattle.gate_sets.specs.declared.words.Digits.TheVariants.{Sets}
use Rattle.gate_sets.proofs.words.set_word.Goals as goal

pub returns-in-Any : goal.returns-in-Any
returns-in-Any c = λ choice l.
    let zero = c.zero_word-in-Any.result in
    let one = c.one_word-in-Any.result in
    bit_at_or zero one choice ∙ ap (λ b. max b (bit_at one choice)) (c.zero_word-in-Any.ensures choice l) ∙ ap (max _) (c.one_word-in-Any.ensures choice l)
    ∙ ap (λ lit. lit_bit Sets lit (choice / 4 ^ c.args.place)) (sym c.in-Any.is)
