-- The number that a text is, read by its digits.
use Rattle.std.proofs.Common.{◌≡◌, ℕ, zero, suc, ◌-◌, ◌^◌, ◌<◌, ◌≤◌, Bool, true, false, cond, List, ◌∷◌, length, get_or, None, Some, arith, refl, sym, ap, ◌∙◌, subst}
use Rattle.std.specs.Prelude.{All, bytes_eq}
use Rattle.std.specs.Char.{IsAsciiDigit}
use Rattle.std.specs.Fmt.{decimal}
use Rattle.std.proofs.lemmas.Fmt.{decimal-digits_value, decimal_injective, decimal_nonempty, digits_decimal, digits_value-decimal, first_decimal, decimal_digit}
use Rattle.std.proofs.lemmas.Slice.Eq.{bytes_eq-Decides}
use Rattle.std.proofs.lemmas.Str.Parse.{IsDigitsTest, IsNumeralModel, numerals_by_fold}
use Rattle.ste_base.specs.Number.{IsNumber, number_from, number_of}
use Rattle.hierarchy.specs.Names.{number_below}

-- all bytes are digits
tells : IsDigitsTest (All IsAsciiDigit)
tells = record {
  empty = λ k d h. absurd (omega arith);
  parts = λ c cs h. (h 0 0 (omega arith), λ k d low. h (suc k) d (omega arith));
  more = λ c cs digit rest k d low. at c cs digit rest k d low;
}
  where
    at : (c : ℕ) (cs : List ℕ) → IsAsciiDigit c → All IsAsciiDigit cs → All IsAsciiDigit (c ∷ cs)
    at c cs digit rest zero d low = digit
    at c cs digit rest (suc k) d low = rest k d (omega arith)

-- texts of digits and their values are numerals
numerals : IsNumeralModel (All IsAsciiDigit) number_of
numerals = numerals_by_fold (All IsAsciiDigit) tells number_from (record { empty = λ n. refl; more = λ n c cs digit. refl })

-- the text is a number without leading zeros
abbrev pub IsPlain : List ℕ → Type 0
IsPlain text = IsNumber text × (get_or text 0 0 ≡ 48 → length text ≡ 1)

-- a number without leading zeros is what its value is written as
plain_is : (text : List ℕ) → IsPlain text → number_of text < 2 ^ 64 → decimal (number_of text) ≡ text
plain_is text plain small = decimal-digits_value numerals text plain.0.1 plain.0.0 plain.1 small

-- what is written of a number has no leading zeros
written_is : (n : ℕ) → n < 2 ^ 64 → IsPlain (decimal n)
written_is zero small = ((decimal_nonempty 0 small, digits_decimal numerals 0 small), λ e. ap length (decimal_digit 0 (omega arith)))
written_is (suc n) small = ((decimal_nonempty (suc n) small, digits_decimal numerals (suc n) small), λ e. let f = first_decimal (suc n) (omega arith) small in absurd (omega (arith, f, e)))

-- a text that no number is written as is no number below a count
none_below : (count : ℕ) (text : List ℕ) → count ≤ 2 ^ 64 → ((n : ℕ) → n < count → decimal n ≡ text → ⊥) → number_below count text ≡ None
none_below zero text small other = refl
none_below (suc count) text small other = by (bytes_eq (decimal count) text) refl (none_below count text (omega arith) (λ n low same. other n (omega arith) same))
  where
    by : (b : Bool) → bytes_eq (decimal count) text ≡ b → number_below count text ≡ None → cond b (Some count) (number_below count text) ≡ None
    by true e rest = absurd (other count (omega arith) ((bytes_eq-Decides (decimal count) text).0 e))
    by false e rest = rest

-- what a number is written as is that number, below a count above it
is_below : (count n : ℕ) → count ≤ 2 ^ 64 → n < count → number_below count (decimal n) ≡ Some n
is_below zero n small low = absurd (omega arith)
is_below (suc count) n small low = by (bytes_eq (decimal count) (decimal n)) refl (λ lower. is_below count n (omega arith) lower)
  where
    lower : bytes_eq (decimal count) (decimal n) ≡ false → n < count
    lower e = let differs : count ≡ n → ⊥ = λ same. absurd (cc (e, (bytes_eq-Decides (decimal count) (decimal n)).1 (ap decimal same))) in omega (arith, low, differs)

    by : (b : Bool) → bytes_eq (decimal count) (decimal n) ≡ b → (n < count → number_below count (decimal n) ≡ Some n) → cond b (Some count) (number_below count (decimal n)) ≡ Some n
    by true e rest = ap Some (decimal_injective count n (omega arith) (omega arith) ((bytes_eq-Decides (decimal count) (decimal n)).0 e))
    by false e rest = rest (lower e)

-- a number without leading zeros below the count
pub found : (count : ℕ) (text : List ℕ) (n : ℕ) → count < 2 ^ 64 → (((1 < length text) × (get_or text 0 0 ≡ 48)) → ⊥) → (n ≡ number_of text) × IsNumber text × (n ≤ 2 ^ 64 - 1) → n < count → Some n ≡ number_below count text
found count text n small padded read low =
    let value : number_of text < 2 ^ 64 = omega (arith, read.0, low, small) in
    let some = read.1.0 in
    let lead : get_or text 0 0 ≡ 48 → length text ≡ 1 = λ zero. one text some (λ long. padded (long, zero)) in
    let e : decimal n ≡ text = ap decimal read.0 ∙ plain_is text (read.1, lead) value in
    sym (ap (λ t. number_below count t) (sym e) ∙ is_below count n (omega (arith, small)) low)
  where
    one : (text : List ℕ) → 0 < length text → (1 < length text → ⊥) → length text ≡ 1
    one text some few = omega (arith, some, few)

-- a number that is not below the count, or no number at all
pub too_large : (count : ℕ) (text : List ℕ) → count < 2 ^ 64 → (IsNumber text → count ≤ number_of text) → None ≡ number_below count text
too_large count text small large = sym (none_below count text (omega (arith, small)) (λ n low e. apart n low e))
  where
    apart : (n : ℕ) → n < count → decimal n ≡ text → ⊥
    apart n low e =
        let number : IsNumber text = subst (λ t. IsNumber t) e (written_is n (omega (arith, low, small))).0 in
        let value : number_of text ≡ n = ap number_of (sym e) ∙ digits_value-decimal numerals n (omega (arith, low, small)) in
        let least = large number in
        omega (arith, least, value, low)

-- a number with leading zeros
pub padded_none : (count : ℕ) (text : List ℕ) → count < 2 ^ 64 → (1 < length text) × (get_or text 0 0 ≡ 48) → None ≡ number_below count text
padded_none count text small padded = sym (none_below count text (omega (arith, small)) (λ n low e. apart n low e))
  where
    apart : (n : ℕ) → n < count → decimal n ≡ text → ⊥
    apart n low e =
        let one : length text ≡ 1 = subst (λ t. get_or t 0 0 ≡ 48 → length t ≡ 1) e (written_is n (omega (arith, low, small))).1 padded.1 in
        let long = padded.0 in
        omega (arith, one, long)
