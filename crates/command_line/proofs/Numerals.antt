-- A text of digits that is read as no number is too large.
use Rattle.std.proofs.Common.{◌≡◌, ◌↔◌, ◌<◌, ℕ, true, refl, arith, List, [], ◌∷◌, All, Result, Err, None, nat_eq, nat_le, not}
use Rattle.std.proofs.lemmas.Bool.{and_parts, leb-true, lt-leb}
use Rattle.std.specs.List.{list_all}
use Rattle.std.specs.Char.{IsAsciiDigit}
use Rattle.std.proofs.lemmas.List.Elements.{All-cons, All-nil}
use Rattle.ste_base.specs.Number.{IsNumber, number_of}
use Rattle.ste_base.specs.declared.number.NumberFault.{NumberFault}
use Rattle.ste_base.specs.declared.number.NumberFault.TheVariants.{NotANumber, TooLarge}
use Rattle.ste_base.specs.Bytes.{is_digit}
use Rattle.command_line.specs.Command.{is_positive_number, number_given}

digits : (text : List ℕ) → list_all is_digit text ≡ true → All IsAsciiDigit text
digits [] e = All-nil IsAsciiDigit
digits (d ∷ ds) e =
    let parts = and_parts (is_digit d) (list_all is_digit ds) e in
    let both = and_parts (nat_le 48 d) (nat_le d 57) parts.0 in
    All-cons IsAsciiDigit d ds (leb-true 48 d both.0, leb-true d 57 both.1) (digits ds parts.1)

sound : (text : List ℕ) → is_positive_number text ≡ true → IsNumber text
sound [] e = absurd cc
sound (d ∷ ds) e = (omega arith, digits (d ∷ ds) (and_parts (not (nat_eq d 48)) (list_all is_digit (d ∷ ds)) e).1)

-- a number that is refused is above the greatest
pub none_given : (greatest : ℕ) (text : List ℕ) (r : Result ℕ NumberFault) (fault : NumberFault) → r ≡ Err fault → is_positive_number text ≡ true
    → ((r ≡ Err NotANumber) ↔ ¬ IsNumber text) → ((r ≡ Err TooLarge) ↔ (IsNumber text × (greatest < number_of text))) → None ≡ number_given greatest text
none_given greatest text r NotANumber is e bad large = absurd (bad.0 is (sound text e))
none_given greatest text r TooLarge is e bad large =
    let above = (large.0 is).1 in
    rw e (rw (lt-leb (number_of text) greatest above) refl)
