-- The words of a header.
use Rattle.std.proofs.Common.{ℕ, suc, ◌+◌, ◌<◌, ◌≤◌, ◌≡◌, refl, ap, sym, ◌∙◌, List, [], ◌∷◌, ◌++◌, length, length-append, arith, Bool, true, false}
use Rattle.std.specs.Prelude.{◌&&◌, if◌then◌else◌, nat_le}
use Rattle.aig_model.specs.declared.line.Header.{Header}
use Rattle.aig_model.specs.declared.line.Header.TheVariants.{Bad}
use Rattle.aig_model.specs.Lines.{header_of}

too_many : (a b c : Bool) (good : Header) → c ≡ false → (if a && (b && c) then good else Bad) ≡ Bad
too_many true true true good e = absurd (cc e)
too_many true true false good e = refl
too_many true false c good e = refl
too_many false b c good e = refl

-- more than ten words are no header
long_bad : (words : List (List ℕ)) → 11 ≤ length words → header_of words ≡ Bad
long_bad [] h = absurd (omega arith)
long_bad (a ∷ []) h = absurd (omega arith)
long_bad (a ∷ b ∷ []) h = absurd (omega arith)
long_bad (a ∷ b ∷ c ∷ []) h = absurd (omega arith)
long_bad (a ∷ b ∷ c ∷ d ∷ []) h = absurd (omega arith)
long_bad (a ∷ b ∷ c ∷ d ∷ e ∷ []) h = absurd (omega arith)
long_bad (a ∷ b ∷ c ∷ d ∷ e ∷ f ∷ further) h = too_many _ _ (nat_le (length further) 4) _ (above
    (length further) (omega arith))
  where
    above : (n : ℕ) → 5 ≤ n → nat_le n 4 ≡ false
    above n h = grind arith

-- so the words up to the eleventh say what all of them do
pub many_words : (words rest all : List (List ℕ)) → words ++ rest ≡ all → 11 ≤ length words →
    header_of words ≡ header_of all
many_words words rest all e h = long_bad words h ∙ sym (ap header_of (sym e)
    ∙ long_bad (words ++ rest) (omega (arith, length-append words rest)))
