-- Constants first.
use Rattle.std.proofs.Common.{◌≡◌, ◌<◌, ℕ, min, max, inl, inr, arith, subst, Bool, true, false, not, refl, sym, ◌∙◌, ap, Ok}
use Rattle.std.proofs.lemmas.Bool.{cases_eq}
use Rattle.std.specs.Prelude.{◌&&◌, ◌||◌, if◌then◌else◌}
use Rattle.dd_nodes.specs.declared.node.Ref.{Ref}
use Rattle.ste_base.specs.Functions.{Function}
use Rattle.dd_nodes.specs.Stores.{Store, IsRef, function}
use Rattle.dd_nodes.proofs.Stores.{IsGood}
use Rattle.dd_nodes.proofs.Spending.{one_means, zero_means}
use Rattle.dd_ops.proofs.Steps.{Answer-settled}
use Rattle.dd_ops.proofs.Terminal.{zero_bit, one_bit}
use Rattle.dd_ops.specs.Answer.{Answer}

and_one : (x y : Bool) → y ≡ true → x ≡ (x && y)
and_one true y e = sym e
and_one false y e = refl

and_zero : (x y : Bool) → y ≡ false → y ≡ (x && y)
and_zero true y e = refl
and_zero false y e = e

or_zero : (x y : Bool) → y ≡ false → x ≡ (x || y)
or_zero true y e = refl
or_zero false y e = sym e

or_one : (x y : Bool) → y ≡ true → y ≡ (x || y)
or_one true y e = e
or_one false y e = refl

module _ (s : Store) (a b : Ref) (d : IsGood s) (ha : IsRef s a) (hb : IsRef s b) where
  pub and_left_one : a.0 ≡ 1 → Answer (λ bits. function s a bits && function s b bits) s s (Ok b)
  and_left_one e = Answer-settled (λ bits. function s a bits && function s b bits) s b (record { ref = hb; value = λ bits l. sym (ap (λ x. x && function s b bits) (one_bit s a bits d e)) })

  pub and_right_one : b.0 ≡ 1 → Answer (λ bits. function s a bits && function s b bits) s s (Ok a)
  and_right_one e = Answer-settled (λ bits. function s a bits && function s b bits) s a (record { ref = ha; value = λ bits l. and_one (function s a bits) (function s b bits) (one_bit s b bits d e) })

  pub and_left_zero : a.0 ≡ 0 → Answer (λ bits. function s a bits && function s b bits) s s (Ok a)
  and_left_zero e = Answer-settled (λ bits. function s a bits && function s b bits) s a (record { ref = ha; value = λ bits l. zero_bit s a bits d e ∙ sym (ap (λ x. x && function s b bits) (zero_bit s a bits d e)) })

  pub and_right_zero : b.0 ≡ 0 → Answer (λ bits. function s a bits && function s b bits) s s (Ok b)
  and_right_zero e = Answer-settled (λ bits. function s a bits && function s b bits) s b (record { ref = hb; value = λ bits l. and_zero (function s a bits) (function s b bits) (zero_bit s b bits d e) })

  pub or_left_zero : a.0 ≡ 0 → Answer (λ bits. function s a bits || function s b bits) s s (Ok b)
  or_left_zero e = Answer-settled (λ bits. function s a bits || function s b bits) s b (record { ref = hb; value = λ bits l. sym (ap (λ x. x || function s b bits) (zero_bit s a bits d e)) })

  pub or_right_zero : b.0 ≡ 0 → Answer (λ bits. function s a bits || function s b bits) s s (Ok a)
  or_right_zero e = Answer-settled (λ bits. function s a bits || function s b bits) s a (record { ref = ha; value = λ bits l. or_zero (function s a bits) (function s b bits) (zero_bit s b bits d e) })

  pub or_left_one : a.0 ≡ 1 → Answer (λ bits. function s a bits || function s b bits) s s (Ok a)
  or_left_one e = Answer-settled (λ bits. function s a bits || function s b bits) s a (record { ref = ha; value = λ bits l. one_bit s a bits d e ∙ sym (ap (λ x. x || function s b bits) (one_bit s a bits d e)) })

  pub or_right_one : b.0 ≡ 1 → Answer (λ bits. function s a bits || function s b bits) s s (Ok b)
  or_right_one e = Answer-settled (λ bits. function s a bits || function s b bits) s b (record { ref = hb; value = λ bits l. or_one (function s a bits) (function s b bits) (one_bit s b bits d e) })

  -- of two constants the product is the lesser number, and the sum the greater one
  pub and_least : (r : ℕ) → a.0 < 2 → b.0 < 2 → r ≡ min a.0 b.0 → Answer (λ bits. function s a bits && function s b bits) s s (Ok (record { 0 = r }))
  and_least r la lb e = elim (cases_eq a.0 0) as (λ _. Answer (λ bits. function s a bits && function s b bits) s s (Ok (record { 0 = r }))) [
    | inl low ↦ subst (λ (n : ℕ). Answer (λ bits. function s a bits && function s b bits) s s (Ok (record { 0 = n }))) (omega (arith, low, e)) (and_left_zero low)
    | inr high ↦ subst (λ (n : ℕ). Answer (λ bits. function s a bits && function s b bits) s s (Ok (record { 0 = n }))) (omega (arith, high, la, lb, e)) (and_left_one (omega (arith, high, la)))
  ]

  pub or_most : (r : ℕ) → a.0 < 2 → b.0 < 2 → r ≡ max a.0 b.0 → Answer (λ bits. function s a bits || function s b bits) s s (Ok (record { 0 = r }))
  or_most r la lb e = elim (cases_eq a.0 0) as (λ _. Answer (λ bits. function s a bits || function s b bits) s s (Ok (record { 0 = r }))) [
    | inl low ↦ subst (λ (n : ℕ). Answer (λ bits. function s a bits || function s b bits) s s (Ok (record { 0 = n }))) (omega (arith, low, e)) (or_left_zero low)
    | inr high ↦ subst (λ (n : ℕ). Answer (λ bits. function s a bits || function s b bits) s s (Ok (record { 0 = n }))) (omega (arith, high, la, lb, e)) (or_left_one (omega (arith, high, la)))
  ]

  pub opposite_one : a.0 ≡ 1 → Answer (λ bits. not (function s a bits)) s s (Ok (record { 0 = 0 }))
  opposite_one e = Answer-settled (λ bits. not (function s a bits)) s (record { 0 = 0 }) (record { ref = (zero_means s d).ref; value = λ bits l. (zero_means s d).value bits l ∙ sym (ap not (one_bit s a bits d e)) })

  pub opposite_zero : a.0 ≡ 0 → Answer (λ bits. not (function s a bits)) s s (Ok (record { 0 = 1 }))
  opposite_zero e = Answer-settled (λ bits. not (function s a bits)) s (record { 0 = 1 }) (record { ref = (one_means s d).ref; value = λ bits l. (one_means s d).value bits l ∙ sym (ap not (zero_bit s a bits d e)) })

except_bit : (x y z : Bool) → z ≡ false → (if y then z else x) ≡ (x && not y)
except_bit true true z e = e
except_bit false true z e = e
except_bit true false z e = refl
except_bit false false z e = refl

-- a choice of 0 where b is 1 is the product with its negation
abbrev chosen : Store → Ref → Ref → Function
chosen s a b bits = if function s b bits then function s (record { 0 = 0 }) bits else function s a bits

abbrev excepted : Store → Ref → Ref → Function
excepted s a b bits = function s a bits && not (function s b bits)

pub except_is : (s : Store) (a b : Ref) → IsGood s → chosen s a b ≡ excepted s a b
except_is s a b d = λ i bits. except_bit (function s a bits) (function s b bits) (function s (record { 0 = 0 }) bits) (zero_bit s (record { 0 = 0 }) bits d refl) i
