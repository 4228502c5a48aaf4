-- The bits of words for all choices are what rows say for each.
use Rattle.std.proofs.Common.{◌≡◌, ℕ, zero, suc, ◌+◌, ◌*◌, ◌/◌, ◌^◌, ◌<◌, ◌≤◌, min, max, Bool, true, false, List, ◌∷◌, [], length, get_or, drop, arith, refl, sym, ap, ◌∙◌, subst, inl, inr}
use Rattle.std.specs.Prelude.{◌==◌, ◌&&◌}
use Rattle.std.specs.Int.{bit_at}
use Rattle.std.proofs.Math.Seq.{drop-cons}
use Rattle.std.proofs.Math.ListN.{drop_of_length-le}
use Rattle.std.proofs.Math.Nat.{div-one, div-div-eq-div-mul, pow-suc}
use Rattle.std.specs.Int.Bits.{bit_and, bit_or}
use Rattle.std.proofs.lemmas.Bool.{cases_eq, eqb-true}
use Rattle.std.proofs.lemmas.Nat.Bits.{bit_at_and, bit_at_or, bit_at_ones, bit_at-suc}
use Rattle.net_core.specs.declared.cover.Lit.{Lit}
use Rattle.net_core.specs.declared.cover.Lit.TheVariants.{Zero, One, Any}
use Rattle.gate_sets.specs.declared.words.Digits.{Digits}
use Rattle.gate_sets.specs.declared.words.Digits.TheVariants.{Bits, Sets}
use Rattle.gate_sets.specs.private.Words.{base_of, lit_bit, row_bit, rows_bit}

-- ---- words

-- whether the bits of a word, below n, are those at this place of the choices
abbrev agrees : ℕ → ℕ → ℕ → ℕ → Bool
agrees zero word place at = true
agrees (suc n) word place at = (bit_at word n == bit_at (n / 4 ^ place) at) && agrees n word place at

left_of : (a b : Bool) → (a && b) ≡ true → a ≡ true
left_of true b e = refl
left_of false b e = absurd (cc e)

right_of : (a b : Bool) → (a && b) ≡ true → b ≡ true
right_of true b e = e
right_of false b e = absurd (cc e)

pub agreed : (n word place at choice : ℕ) → agrees n word place at ≡ true → choice < n → bit_at word choice ≡ bit_at (choice / 4 ^ place) at
agreed zero word place at choice e l = absurd (omega (arith, l))
agreed (suc n) word place at choice e l = elim (cases_eq choice n) [
  | inl same ↦ subst (λ (k : ℕ). bit_at word k ≡ bit_at (k / 4 ^ place) at) (sym same) (eqb-true _ _ (left_of _ (agrees n word place at) e))
  | inr other ↦ agreed n word place at choice (right_of _ (agrees n word place at) e) (omega (arith, l, other))
]

pub zero_first : agrees 64 12297829382473034410 0 0 ≡ true
zero_first = refl

pub one_first : agrees 64 14757395258967641292 0 1 ≡ true
one_first = refl

pub zero_second : agrees 64 17361641481138401520 1 0 ≡ true
zero_second = refl

pub one_second : agrees 64 18374966859414961920 1 1 ≡ true
one_second = refl

pub zero_third : agrees 64 18446462603027742720 2 0 ≡ true
zero_third = refl

pub one_third : agrees 64 18446744069414584320 2 1 ≡ true
one_third = refl

-- ---- rows

pub bit_small : (n i : ℕ) → bit_at n i < 2
bit_small n i = omega arith

lit_small : (digits : Digits) (lit : Lit) (choice : ℕ) → lit_bit digits lit choice < 2
lit_small Bits Zero choice = omega arith
lit_small Bits One choice = bit_small choice 0
lit_small Bits Any choice = omega arith
lit_small Sets Zero choice = bit_small choice 0
lit_small Sets One choice = bit_small choice 1
lit_small Sets Any choice = let a = bit_small choice 0 in let b = bit_small choice 1 in omega (arith, a, b)

row_small : (digits : Digits) (row : List Lit) (choice : ℕ) → row_bit digits row choice < 2
row_small digits [] choice = omega arith
row_small digits (lit ∷ row) choice = let a = lit_small digits lit choice in omega (arith, a)

-- the digits behind the next one
digits_behind : (base choice place : ℕ) → choice / base ^ place / base ≡ choice / base ^ (place + 1)
digits_behind base choice place =
    let next : suc place ≡ place + 1 = omega arith in
    div-div-eq-div-mul choice (base ^ place) base ∙ ap (λ (n : ℕ). choice / n) (sym (pow-suc base place)) ∙ ap (λ (n : ℕ). choice / base ^ n) next

least_one : (n : ℕ) → n < 2 → min 1 n ≡ n
least_one n l = omega (arith, l)

-- before the first digit stands the whole choice
all_digits : (digits : Digits) (choice : ℕ) → choice / base_of digits ^ 0 ≡ choice
all_digits Bits choice = div-one choice
all_digits Sets choice = div-one choice

-- a word of ones admits what the whole row does
pub row_begins : (digits : Digits) (row : List Lit) (choice : ℕ) → choice < 64 → min (bit_at 18446744073709551615 choice) (row_bit digits row (choice / base_of digits ^ 0)) ≡ row_bit digits row choice
row_begins digits row choice l =
    let whole : choice / base_of digits ^ 0 ≡ choice = all_digits digits choice in
    ap (λ (b : ℕ). min b (row_bit digits row (choice / base_of digits ^ 0))) (bit_at_ones 64 choice l) ∙ ap (λ (n : ℕ). min 1 (row_bit digits row n)) whole ∙ least_one (row_bit digits row choice) (row_small digits row choice)

min_in : (a b c : ℕ) → min (min a b) c ≡ min a (min b c)
min_in a b c = omega arith

max_in : (a b c : ℕ) → max (max a b) c ≡ max a (max b c)
max_in a b c = omega arith

-- one more literal
pub row_goes_on : (digits : Digits) (row : List Lit) (lit : Lit) (word more place choice all : ℕ) → place < length row → lit ≡ get_or row place lit → bit_at more choice ≡ lit_bit digits lit (choice / base_of digits ^ place)
    → min (bit_at word choice) (row_bit digits (drop place row) (choice / base_of digits ^ place)) ≡ all → min (bit_at (bit_and word more) choice) (row_bit digits (drop (place + 1) row) (choice / base_of digits ^ (place + 1))) ≡ all
row_goes_on digits row lit word more place choice all l is bits before =
    let next : suc place ≡ place + 1 = omega arith in
    let rest : List Lit = drop (place + 1) row in
    let cut : drop place row ≡ lit ∷ rest = drop-cons row place lit l ∙ ap (λ (x : Lit). x ∷ drop (suc place) row) (sym is) ∙ ap (λ (n : ℕ). lit ∷ drop n row) next in
    let whole : row_bit digits (drop place row) (choice / base_of digits ^ place) ≡ min (lit_bit digits lit (choice / base_of digits ^ place)) (row_bit digits rest (choice / base_of digits ^ (place + 1))) =
    ap (λ (r : List Lit). row_bit digits r (choice / base_of digits ^ place)) cut ∙ ap (λ (n : ℕ). min (lit_bit digits lit (choice / base_of digits ^ place)) (row_bit digits rest n)) (digits_behind (base_of digits) choice place) in
    ap (λ (b : ℕ). min b (row_bit digits rest (choice / base_of digits ^ (place + 1)))) (bit_at_and word more choice ∙ ap (min (bit_at word choice)) bits)
    ∙ min_in (bit_at word choice) (lit_bit digits lit (choice / base_of digits ^ place)) (row_bit digits rest (choice / base_of digits ^ (place + 1)))
    ∙ ap (min (bit_at word choice)) (sym whole) ∙ before

-- behind the last literal the word says all
pub row_ends : (digits : Digits) (row : List Lit) (word place choice all : ℕ) → length row ≤ place → min (bit_at word choice) (row_bit digits (drop place row) (choice / base_of digits ^ place)) ≡ all → bit_at word choice ≡ all
row_ends digits row word place choice all le before =
    let small = bit_small word choice in
    let none : min (bit_at word choice) 1 ≡ all = sym (ap (λ (r : List Lit). min (bit_at word choice) (row_bit digits r (choice / base_of digits ^ place))) (drop_of_length-le row le)) ∙ before in
    omega (arith, small, none)

-- one more row
pub rows_go_on : (digits : Digits) (rows : List (List Lit)) (row : List Lit) (word more k choice all : ℕ) → k < length rows → row ≡ get_or rows k row → bit_at more choice ≡ row_bit digits row choice
    → max (bit_at word choice) (rows_bit digits (drop k rows) choice) ≡ all → max (bit_at (bit_or word more) choice) (rows_bit digits (drop (k + 1) rows) choice) ≡ all
rows_go_on digits rows row word more k choice all l is bits before =
    let next : suc k ≡ k + 1 = omega arith in
    let rest : List (List Lit) = drop (k + 1) rows in
    let cut : drop k rows ≡ row ∷ rest = drop-cons rows k row l ∙ ap (λ (x : List Lit). x ∷ drop (suc k) rows) (sym is) ∙ ap (λ (n : ℕ). row ∷ drop n rows) next in
    ap (λ (b : ℕ). max b (rows_bit digits rest choice)) (bit_at_or word more choice ∙ ap (max (bit_at word choice)) bits)
    ∙ max_in (bit_at word choice) (row_bit digits row choice) (rows_bit digits rest choice)
    ∙ ap (λ (rs : List (List Lit)). max (bit_at word choice) (rows_bit digits rs choice)) (sym cut) ∙ before

-- ---- bits

-- a digit to the base 2, as the lowest one
pub lowest : (n i : ℕ) → bit_at n i ≡ bit_at (n / 2 ^ i) 0
lowest n zero = ap (λ (m : ℕ). bit_at m 0) (sym (div-one n))
lowest n (suc i) =
    let next : 2 ^ suc i ≡ 2 * 2 ^ i = pow-suc 2 i ∙ omega arith in
    bit_at-suc n i ∙ lowest (n / 2) i ∙ ap (λ (m : ℕ). bit_at m 0) (div-div-eq-div-mul n 2 (2 ^ i) ∙ ap (λ (m : ℕ). n / m) (sym next))
