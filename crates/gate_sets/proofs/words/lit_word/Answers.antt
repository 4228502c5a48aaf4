use Rattle.std.proofs.Common.{◌≡◌, ◌<◌, ◌/◌, ◌^◌, sym, subst}
use Rattle.std.specs.Int.{bit_at}
use Rattle.gate_sets.specs.declared.words.Digits.{Digits}
use Rattle.gate_sets.specs.private.Words.{base_of, lit_bit, most_of}
use Rattle.gate_sets.proofs.words.lit_word.Goals as goal

pub bit_word-requires : goal.bit_word-requires
bit_word-requires c = subst (λ (d : Digits). c.args.place < most_of d) c.in-Bits.is c.requires

pub set_word-requires : goal.set_word-requires
set_word-requires c = subst (λ (d : Digits). c.args.place < most_of d) c.in-Sets.is c.requires

pub returns-in-Bits : goal.returns-in-Bits
returns-in-Bits c = λ choice l.
    subst (λ (d : Digits). bit_at c.bit_word.result choice ≡ lit_bit d c.args.lit (choice / base_of d ^ c.args.place)) (sym c.in-Bits.is) (c.bit_word.ensures choice l)

pub returns-in-Sets : goal.returns-in-Sets
returns-in-Sets c = λ choice l.
    subst (λ (d : Digits). bit_at c.set_word.result choice ≡ lit_bit d c.args.lit (choice / base_of d ^ c.args.place)) (sym c.in-Sets.is) (c.set_word.ensures choice l)
