-- The bits of the covers that the model has, and of literals.
use Rattle.std.proofs.Common.{◌≡◌, ℕ, ◌+◌, ◌/◌, ◌%◌, Bool, true, false, not, [], ◌∷◌, refl, arith, ◌∙◌}
use Rattle.std.specs.Prelude.{◌&&◌, ◌||◌, if◌then◌else◌, nat_eq}
use Rattle.net_core.specs.Cover.{admits, cover_bit}
use Rattle.net_core.specs.declared.cover.Lit.TheVariants.{Zero, One}
use Rattle.aig_model.specs.Literals.{is_odd, literal_bit, variable_of}
use Rattle.aig_model.specs.Netlist.{lit_of, one_row}

-- the bit of a literal, from that of its variable
abbrev pub bit_with : ℕ → Bool → Bool
bit_with literal bit = if is_odd literal then not bit else bit

admits_by : (odd bit : Bool) → admits (if odd then Zero else One) bit ≡ (if odd then not bit else
    bit)
admits_by true bit = refl
admits_by false bit = refl

one_true : (a : Bool) → (a && true) || false ≡ a
one_true true = refl
one_true false = refl

two_true : (a b : Bool) → (a && (b && true)) || false ≡ a && b
two_true true true = refl
two_true true false = refl
two_true false b = refl

-- an AND's cover gives 1 exactly where both its literals are
pub and_bit : (left right : ℕ) (x y : Bool) → cover_bit (one_row 2 (lit_of left ∷ lit_of right ∷
    [])) (x ∷ y ∷ []) ≡ bit_with left x && bit_with right y
and_bit left right x y =
    two_true (admits (lit_of left) x) (admits (lit_of right) y)
    ∙ (λ i. admits_by (is_odd left) x i && admits_by (is_odd right) y i)

-- an output's cover gives its literal's bit
pub output_bit : (literal : ℕ) (x : Bool) → cover_bit (one_row 1 (lit_of literal ∷ [])) (x ∷ []) ≡
    bit_with literal x
output_bit literal x = one_true (admits (lit_of literal) x) ∙ admits_by (is_odd literal) x

-- an inverter gives the opposite
pub opposite_bit : (x : Bool) → cover_bit (one_row 1 (Zero ∷ [])) (x ∷ []) ≡ not x
opposite_bit x = one_true (not x)

half_even : (v : ℕ) → (v + v) / 2 ≡ v
half_even v = omega arith

rest_even : (v : ℕ) → (v + v) % 2 ≡ 0
rest_even v = omega arith

half_odd : (v : ℕ) → (v + v + 1) / 2 ≡ v
half_odd v = omega arith

rest_odd : (v : ℕ) → (v + v + 1) % 2 ≡ 1
rest_odd v = omega arith

-- the even literal of a variable has its bit, and the odd one the opposite
pub even_bit : (bit : ℕ → Bool) (v : ℕ) → literal_bit bit (v + v) ≡ bit v
even_bit bit v = (λ i. if nat_eq (rest_even v i) 1 then not (bit (half_even v i)) else bit
    (half_even v i))

pub odd_bit : (bit : ℕ → Bool) (v : ℕ) → literal_bit bit (v + v + 1) ≡ not (bit v)
odd_bit bit v = (λ i. if nat_eq (rest_odd v i) 1 then not (bit (half_odd v i)) else bit (half_odd v
    i))

-- an odd literal is the one of its variable
pub odd_is : (literal : ℕ) → is_odd literal ≡ true →
    literal ≡ variable_of literal + variable_of literal + 1
odd_is literal e = grind arith
