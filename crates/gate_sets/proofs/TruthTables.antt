-- Tables of rows with few inputs: bits of words as choices, and what constants among the sets leave of them.
use Rattle.std.proofs.Common.{◌≡◌, ℕ, zero, suc, ◌+◌, ◌-◌, ◌*◌, ◌/◌, ◌%◌, ◌^◌, ◌<◌, ◌≤◌, min, max, Bool, true, false, not, List, [], ◌∷◌, length, get_or, set, map, refl, sym, ap, subst, ◌∙◌, arith, inl, inr}
use Rattle.std.specs.Prelude.{All, ◌==◌, ◌&&◌, ◌||◌, ◌⊎◌}
use Rattle.std.specs.Int.{bit_at}
use Rattle.std.specs.Int.Bits.{bit_and, bit_or}
use Rattle.std.proofs.Math.Nat.{div-eq-sub-div, pow-suc}
use Rattle.std.proofs.Math.Pow.{pow_mono}
use Rattle.std.proofs.Math.ListN.{length-set}
use Rattle.std.proofs.lemmas.Bool.{cases_eq, cases_lt, eqb-true}
use Rattle.std.proofs.lemmas.List.{get_or_default, get_or-map, length-map, map-set, set-get_or}
use Rattle.std.proofs.lemmas.List.Elements.{All-head, All-map, All-set, All-tail}
use Rattle.std.proofs.lemmas.Nat.{div-add-mod', one_shl, pow_pos, shr-shr}
use Rattle.std.proofs.lemmas.Nat.Bits.{bit_at-lt, bit_at-suc, bit_at-zero, bit_at_above, bit_at_and, bit_at_cat_high, bit_at_cat_low, bit_at_lowest, bit_at_ones, bit_at_or}
use Rattle.dd_nodes.specs.Diagram.{Held, IsFrom}
use Rattle.dd_nodes.specs.Stores.{Store, function}
use Rattle.dd_nodes.proofs.Stores.{IsGood}
use Rattle.dd_nodes.proofs.Walks.{from_constant}
use Rattle.dd_ops.proofs.Terminal.{one_bit, zero_bit}
use Rattle.dual_rail.specs.declared.rails.Rails.{Rails}
use Rattle.dual_rail.specs.Rail.{AreRefs}
use Rattle.net_core.specs.declared.cover.Lit.{Lit}
use Rattle.net_core.specs.declared.cover.Lit.TheVariants.{Zero, One, Any}
use Rattle.net_core.specs.Cover.{admits, matches, some_matches}
use Rattle.net_core.specs.Work.{AreWide, SymbolicSet}
use Rattle.gate_sets.specs.declared.words.Digits.TheVariants.{Bits}
use Rattle.gate_sets.specs.declared.truth_table.TruthTables.{TruthTables}
use Rattle.gate_sets.specs.private.TruthTables.{AreAlike, AreSettled, HasBit, IsFull, IsSettled, IsDecided, choice_of_rails, choice_place, free_rails, in_table, is_one, own_set_of, some_choice}
use Rattle.gate_sets.specs.private.Words.{lit_bit, row_bit, rows_bit}
use Rattle.gate_sets.proofs.SomeChoice.{IsSome, alike_both, choice_alike, choice_by_bit, choice_each, choice_freed}

-- ---- the place of a choice

digit : Bool → ℕ
digit true = 1
digit false = 0

small_place : (choice : List Bool) → choice_place choice < 2 ^ length choice
small_place [] = omega arith
small_place (true ∷ choice) = let l = small_place choice in let twice = pow-suc 2 (length choice) in omega (arith, l, twice)
small_place (false ∷ choice) = let l = small_place choice in let twice = pow-suc 2 (length choice) in omega (arith, l, twice)

few_places : (choice : List Bool) → length choice ≤ 6 → choice_place choice < 64
few_places choice le = let l = small_place choice in let few : 2 ^ length choice ≤ 2 ^ 6 = pow_mono {i = length choice} {j = 6} le in omega (arith, l, few)

-- its bits are those of the choice
place_bit : (choice : List Bool) (i : ℕ) → bit_at (choice_place choice) i ≡ digit (get_or choice i false)
unfolding digit
place_bit [] i = bit_at-zero i
place_bit (true ∷ choice) zero = bit_at_lowest (1 + 2 * choice_place choice) ∙ omega arith
place_bit (false ∷ choice) zero = bit_at_lowest (2 * choice_place choice) ∙ omega arith
place_bit (true ∷ choice) (suc i) =
    let half : (1 + 2 * choice_place choice) / 2 ≡ choice_place choice = omega arith in
    bit_at-suc (1 + 2 * choice_place choice) i ∙ ap (λ n. bit_at n i) half ∙ place_bit choice i
place_bit (false ∷ choice) (suc i) =
    let half : 2 * choice_place choice / 2 ≡ choice_place choice = omega arith in
    bit_at-suc (2 * choice_place choice) i ∙ ap (λ n. bit_at n i) half ∙ place_bit choice i

-- with one bit changed
place_set : (choice : List Bool) (i : ℕ) → i < length choice → choice_place (set choice i true) ≡ choice_place (set choice i false) + 2 ^ i
place_set [] i l = absurd (omega (arith, l))
place_set (b ∷ choice) zero l = omega arith
place_set (true ∷ choice) (suc i) l = let e = place_set choice i (omega (arith, l)) in let twice = pow-suc 2 i in omega (arith, e, twice)
place_set (false ∷ choice) (suc i) l = let e = place_set choice i (omega (arith, l)) in let twice = pow-suc 2 i in omega (arith, e, twice)

-- ---- words

-- whether the bits of a word, below n, are a place's bits of their numbers
abbrev says : ℕ → ℕ → ℕ → Bool
says zero word place = true
says (suc n) word place = (bit_at word n == bit_at n place) && says n word place

-- whether they are the others
abbrev denies : ℕ → ℕ → ℕ → Bool
denies zero word place = true
denies (suc n) word place = (bit_at word n + bit_at n place == 1) && denies n word place

left_of : (a b : Bool) → (a && b) ≡ true → a ≡ true
left_of true b e = refl
left_of false b e = absurd (cc e)

right_of : (a b : Bool) → (a && b) ≡ true → b ≡ true
right_of true b e = e
right_of false b e = absurd (cc e)

said : (n word place k : ℕ) → says n word place ≡ true → k < n → bit_at word k ≡ bit_at k place
said zero word place k e l = absurd (omega (arith, l))
said (suc n) word place k e l = elim (cases_eq k n) [
  | inl same ↦ subst (λ (m : ℕ). bit_at word m ≡ bit_at m place) (sym same) (eqb-true _ _ (left_of _ (says n word place) e))
  | inr other ↦ said n word place k (right_of _ (says n word place) e) (omega (arith, l, other))
]

denied : (n word place k : ℕ) → denies n word place ≡ true → k < n → bit_at word k + bit_at k place ≡ 1
denied zero word place k e l = absurd (omega (arith, l))
denied (suc n) word place k e l = elim (cases_eq k n) [
  | inl same ↦ subst (λ (m : ℕ). bit_at word m + bit_at m place ≡ 1) (sym same) (eqb-true _ _ (left_of _ (denies n word place) e))
  | inr other ↦ denied n word place k (right_of _ (denies n word place) e) (omega (arith, l, other))
]

-- the words of each place
pub zeros_0 : denies 64 6148914691236517205 0 ≡ true
zeros_0 = refl

pub zeros_1 : denies 64 3689348814741910323 1 ≡ true
zeros_1 = refl

pub zeros_2 : denies 64 1085102592571150095 2 ≡ true
zeros_2 = refl

pub zeros_3 : denies 64 71777214294589695 3 ≡ true
zeros_3 = refl

pub zeros_4 : denies 64 281470681808895 4 ≡ true
zeros_4 = refl

pub zeros_5 : denies 64 4294967295 5 ≡ true
zeros_5 = refl

pub ones_0 : says 64 12297829382473034410 0 ≡ true
ones_0 = refl

pub ones_1 : says 64 14757395258967641292 1 ≡ true
ones_1 = refl

pub ones_2 : says 64 17361641481138401520 2 ≡ true
ones_2 = refl

pub ones_3 : says 64 18374966859414961920 3 ≡ true
ones_3 = refl

pub ones_4 : says 64 18446462603027742720 4 ≡ true
ones_4 = refl

pub ones_5 : says 64 18446744069414584320 5 ≡ true
ones_5 = refl

-- a word has the bits of a place, or the others
abbrev HasBits : ℕ → ℕ → Type 0
HasBits word place = (k : ℕ) → k < 64 → bit_at word k ≡ bit_at k place

abbrev HasOthers : ℕ → ℕ → Type 0
HasOthers word place = (k : ℕ) → k < 64 → bit_at word k + bit_at k place ≡ 1

pub ones_bits : (word n place : ℕ) → says 64 word n ≡ true → place ≡ n → HasBits word place
ones_bits word n place e same = λ k l. said 64 word n k e l ∙ ap (λ (m : ℕ). bit_at k m) (sym same)

pub zeros_bits : (word n place : ℕ) → denies 64 word n ≡ true → place ≡ n → HasOthers word place
zeros_bits word n place e same = λ k l. ap (λ (m : ℕ). bit_at word k + bit_at k m) same ∙ denied 64 word n k e l

-- as choices
one_digit : (b : Bool) → is_one (digit b) ≡ b
unfolding digit
one_digit true = refl
one_digit false = refl

other_digit : (n : ℕ) (b : Bool) → n + digit b ≡ 1 → is_one n ≡ not b
unfolding digit
other_digit n true e = let z : n ≡ 0 = omega (arith, e) in ap is_one z
other_digit n false e = let z : n ≡ 1 = omega (arith, e) in ap is_one z

pub ones_choices : (word place : ℕ) → HasBits word place → (choice : List Bool) → length choice ≤ 6 → place < length choice → in_table word choice ≡ get_or choice place false
ones_choices word place bits choice le l = ap is_one (bits (choice_place choice) (few_places choice le) ∙ place_bit choice place) ∙ one_digit (get_or choice place false)

pub zeros_choices : (word place : ℕ) → HasOthers word place → (choice : List Bool) → length choice ≤ 6 → place < length choice → in_table word choice ≡ not (get_or choice place false)
zeros_choices word place bits choice le l =
    other_digit (bit_at word (choice_place choice)) (get_or choice place false) (ap (λ (n : ℕ). bit_at word (choice_place choice) + n) (sym (place_bit choice place)) ∙ bits (choice_place choice) (few_places choice le))

-- ---- tables with one input fixed

pub few_shifts : (place : ℕ) → place < 6 → 1 * 2 ^ place % 4294967296 < 64
few_shifts place l =
    let few : 2 ^ place ≤ 2 ^ 5 = pow_mono {i = place} {j = 5} (omega (arith, l)) in
    let e = one_shl place 32 (omega (arith, l)) in
    omega (arith, e, few)

-- bits of a word that is moved up
shl_bit : (x m k : ℕ) → k < 64 → m ≤ k → bit_at (x * 2 ^ m % 2 ^ 64) k ≡ bit_at x (k - m)
shl_bit x m k l le =
    let parts : x * 2 ^ m ≡ x * 2 ^ m + 0 = omega arith in
    sym (bit_at_cat_low (x * 2 ^ m / 2 ^ 64) 64 (x * 2 ^ m % 2 ^ 64) k l) ∙ ap (λ (n : ℕ). bit_at n k) (div-add-mod' (x * 2 ^ m) (2 ^ 64) ∙ parts) ∙ bit_at_cat_high x m 0 k (pow_pos m) le

shl_low : (x m k : ℕ) → k < 64 → k < m → bit_at (x * 2 ^ m % 2 ^ 64) k ≡ 0
shl_low x m k l lt =
    let parts : x * 2 ^ m ≡ x * 2 ^ m + 0 = omega arith in
    sym (bit_at_cat_low (x * 2 ^ m / 2 ^ 64) 64 (x * 2 ^ m % 2 ^ 64) k l) ∙ ap (λ (n : ℕ). bit_at n k) (div-add-mod' (x * 2 ^ m) (2 ^ 64) ∙ parts) ∙ bit_at_cat_low x m 0 k lt ∙ bit_at-zero k

shr_bit : (x m k : ℕ) → bit_at (x / 2 ^ m) k ≡ bit_at x (m + k)
shr_bit x m k = ap (λ (n : ℕ). n % 2) (shr-shr x m k)

-- the bit at a place turns with the power of 2 taken off
off_bit : (k p : ℕ) → 2 ^ p ≤ k → bit_at (k - 2 ^ p) p + bit_at k p ≡ 1
off_bit k p le = let e : k / 2 ^ p ≡ (k - 2 ^ p) / 2 ^ p + 1 = div-eq-sub-div (pow_pos p) le in omega (arith, e)

on_bit : (k p : ℕ) → bit_at (2 ^ p + k) p + bit_at k p ≡ 1
on_bit k p =
    let e = off_bit (2 ^ p + k) p (omega arith) in
    let back : 2 ^ p + k - 2 ^ p ≡ k = omega arith in
    let b = ap (λ (n : ℕ). bit_at n p) back in
    omega (arith, e, b)

module _ (table mask p : ℕ) where
  -- the table with the zeros of a place, and once more where it is 1
  abbrev doubled_up : ℕ
  doubled_up = bit_or (bit_and table mask) (bit_and table mask * 2 ^ (2 ^ p) % 2 ^ 64)

  up_zero : HasOthers mask p → (k : ℕ) → k < 64 → bit_at k p ≡ 0 → bit_at doubled_up k ≡ bit_at table k
  up_zero bits k l e =
      let here = bits k l in
      let low = bit_at_and table mask k in
      let one = bit_at-lt table k in
      let moved : bit_at (bit_and table mask * 2 ^ (2 ^ p) % 2 ^ 64) k ≡ 0 = elim (cases_lt k (2 ^ p)) as (λ _. bit_at (bit_and table mask * 2 ^ (2 ^ p) % 2 ^ 64) k ≡ 0) [
        | inl lt ↦ shl_low (bit_and table mask) (2 ^ p) k l lt
        | inr le ↦
            let turned = off_bit k p le in
            let there = bits (k - 2 ^ p) (omega (arith, l)) in
            let both = bit_at_and table mask (k - 2 ^ p) in
            shl_bit (bit_and table mask) (2 ^ p) k l le ∙ omega (arith, turned, there, both, e)
      ] in
      bit_at_or (bit_and table mask) (bit_and table mask * 2 ^ (2 ^ p) % 2 ^ 64) k ∙ omega (arith, here, low, one, moved, e)

  up_one : HasOthers mask p → (k : ℕ) → 2 ^ p + k < 64 → bit_at k p ≡ 0 → bit_at doubled_up (2 ^ p + k) ≡ bit_at table k
  up_one bits k l e =
      let here = bits (2 ^ p + k) l in
      let turned = on_bit k p in
      let low = bit_at_and table mask (2 ^ p + k) in
      let there = bits k (omega (arith, l)) in
      let back : 2 ^ p + k - 2 ^ p ≡ k = omega arith in
      let both = bit_at_and table mask k in
      let one = bit_at-lt table k in
      let moved : bit_at (bit_and table mask * 2 ^ (2 ^ p) % 2 ^ 64) (2 ^ p + k) ≡ bit_at (bit_and table mask) k = shl_bit (bit_and table mask) (2 ^ p) (2 ^ p + k) l (omega arith) ∙ ap (λ (n : ℕ). bit_at (bit_and table mask) n) back in
      bit_at_or (bit_and table mask) (bit_and table mask * 2 ^ (2 ^ p) % 2 ^ 64) (2 ^ p + k) ∙ omega (arith, here, turned, low, there, both, one, moved, e)

  -- the table with the ones of a place, and once more where it is 0
  abbrev doubled_down : ℕ
  doubled_down = bit_or (bit_and table mask) (bit_and table mask / 2 ^ (2 ^ p))

  down_one : HasBits mask p → table < 2 ^ 64 → (k : ℕ) → k < 64 → bit_at k p ≡ 1 → bit_at doubled_down k ≡ bit_at table k
  down_one bits small k l e =
      let here = bits k l in
      let low = bit_at_and table mask k in
      let one = bit_at-lt table k in
      let turned = on_bit k p in
      let both = bit_at_and table mask (2 ^ p + k) in
      let none : bit_at (bit_and table mask) (2 ^ p + k) ≡ 0 = elim (cases_lt (2 ^ p + k) 64) as (λ _. bit_at (bit_and table mask) (2 ^ p + k) ≡ 0) [
        | inl lt ↦ let there = bits (2 ^ p + k) lt in omega (arith, turned, there, both, e)
        | inr le ↦ let above = bit_at_above table 64 (2 ^ p + k) small le in omega (arith, both, above)
      ] in
      let moved = shr_bit (bit_and table mask) (2 ^ p) k in
      bit_at_or (bit_and table mask) (bit_and table mask / 2 ^ (2 ^ p)) k ∙ omega (arith, here, low, one, none, moved, e)

  down_zero : HasBits mask p → (k : ℕ) → 2 ^ p + k < 64 → bit_at k p ≡ 0 → bit_at doubled_down k ≡ bit_at table (2 ^ p + k)
  down_zero bits k l e =
      let here = bits k (omega (arith, l)) in
      let low = bit_at_and table mask k in
      let turned = on_bit k p in
      let there = bits (2 ^ p + k) l in
      let both = bit_at_and table mask (2 ^ p + k) in
      let one = bit_at-lt table (2 ^ p + k) in
      let moved = shr_bit (bit_and table mask) (2 ^ p) k in
      bit_at_or (bit_and table mask) (bit_and table mask / 2 ^ (2 ^ p)) k ∙ omega (arith, here, low, turned, there, both, one, moved, e)

-- the same for a choice, by the bit that it has at the place
bit_none : (choice : List Bool) (i : ℕ) → bit_at (choice_place (set choice i false)) i ≡ 0
unfolding digit
bit_none choice i = place_bit (set choice i false) i ∙ ap digit (none choice i)
  where
    none : (choice : List Bool) (i : ℕ) → get_or (set choice i false) i false ≡ false
    none [] i = refl
    none (b ∷ choice) zero = refl
    none (b ∷ choice) (suc i) = none choice i

with_bit : (choice : List Bool) (i : ℕ) (b : Bool) → get_or choice i false ≡ b → set choice i b ≡ choice
with_bit choice i b e = ap (set choice i) (sym e) ∙ set-get_or choice i false

set_long : (choice : List Bool) (i : ℕ) (b : Bool) → length choice ≤ 6 → length (set choice i b) ≤ 6
set_long choice i b le = let e = length-set choice i b in omega (arith, e, le)

either_bit : (b : Bool) → (b ≡ false) ⊎ (b ≡ true)
either_bit false = inl refl
either_bit true = inr refl

-- where the input at the place is 0
pub zero_fixed : (table mask place n : ℕ) → HasOthers mask place → n ≡ 2 ^ place → (choice : List Bool) → length choice ≤ 6 → place < length choice
    → in_table (bit_or (bit_and table mask) (bit_and table mask * 2 ^ n % 2 ^ 64)) choice ≡ in_table table (set choice place false)
zero_fixed table mask place n bits e choice le l = subst (λ (m : ℕ). in_table (bit_or (bit_and table mask) (bit_and table mask * 2 ^ m % 2 ^ 64)) choice ≡ in_table table (set choice place false)) (sym e) by
  where
    by : in_table (doubled_up table mask place) choice ≡ in_table table (set choice place false)
    by = elim (either_bit (get_or choice place false)) [
      | inl none ↦
          let same : set choice place false ≡ choice = with_bit choice place false none in
          let at : bit_at (choice_place choice) place ≡ 0 = ap (λ (c : List Bool). bit_at (choice_place c) place) (sym same) ∙ bit_none choice place in
          ap is_one (up_zero table mask place bits (choice_place choice) (few_places choice le) at) ∙ ap (in_table table) (sym same)
      | inr one ↦
          let same : set choice place true ≡ choice = with_bit choice place true one in
          let moved : choice_place choice ≡ 2 ^ place + choice_place (set choice place false) = let e = ap choice_place same in let f = place_set choice place l in omega (arith, e, f) in
          let few = few_places choice le in
          ap (λ (k : ℕ). is_one (bit_at (doubled_up table mask place) k)) moved
          ∙ ap is_one (up_one table mask place bits (choice_place (set choice place false)) (omega (arith, moved, few)) (bit_none choice place))
    ]

-- where it is 1
pub one_fixed : (table mask place n : ℕ) → HasBits mask place → table < 2 ^ 64 → n ≡ 2 ^ place → (choice : List Bool) → length choice ≤ 6 → place < length choice
    → in_table (bit_or (bit_and table mask) (bit_and table mask / 2 ^ n)) choice ≡ in_table table (set choice place true)
one_fixed table mask place n bits small e choice le l = subst (λ (m : ℕ). in_table (bit_or (bit_and table mask) (bit_and table mask / 2 ^ m)) choice ≡ in_table table (set choice place true)) (sym e) by
  where
    high_place : choice_place (set choice place true) ≡ 2 ^ place + choice_place (set choice place false)
    high_place = let f = place_set choice place l in omega (arith, f)

    by : in_table (doubled_down table mask place) choice ≡ in_table table (set choice place true)
    by = elim (either_bit (get_or choice place false)) [
      | inl none ↦
          let same : set choice place false ≡ choice = with_bit choice place false none in
          let few = few_places (set choice place true) (set_long choice place true le) in
          ap (λ (c : List Bool). is_one (bit_at (doubled_down table mask place) (choice_place c))) (sym same)
          ∙ ap is_one (down_zero table mask place bits (choice_place (set choice place false)) (omega (arith, high_place, few)) (bit_none choice place))
          ∙ ap (λ (k : ℕ). is_one (bit_at table k)) (sym high_place)
      | inr one ↦
          let same : set choice place true ≡ choice = with_bit choice place true one in
          let turned : bit_at (2 ^ place + choice_place (set choice place false)) place ≡ 1 = let a = on_bit (choice_place (set choice place false)) place in let b = bit_none choice place in omega (arith, a, b) in
          let at : bit_at (choice_place choice) place ≡ 1 = ap (λ (k : ℕ). bit_at k place) (ap choice_place (sym same) ∙ high_place) ∙ turned in
          ap is_one (down_one table mask place bits small (choice_place choice) (few_places choice le) at) ∙ ap (in_table table) (sym same)
    ]

pub shift_is : (place : ℕ) → place < 6 → 1 * 2 ^ place % 4294967296 ≡ 2 ^ place
shift_is place l = one_shl place 32 (omega (arith, l))

-- ---- both tables, and either

is_and : (a b : ℕ) → is_one (min a b) ≡ (is_one a && is_one b)
is_and zero b = ap is_one (none b)
  where
    none : (b : ℕ) → min 0 b ≡ 0
    none b = omega arith
is_and (suc a) zero = ap is_one (none a)
  where
    none : (a : ℕ) → min (suc a) 0 ≡ 0
    none a = omega arith
is_and (suc a) (suc b) = ap is_one (least a b)
  where
    least : (a b : ℕ) → min (suc a) (suc b) ≡ suc (min a b)
    least a b = omega arith

is_or : (a b : ℕ) → is_one (max a b) ≡ (is_one a || is_one b)
is_or zero b = ap is_one (most b)
  where
    most : (b : ℕ) → max 0 b ≡ b
    most b = omega arith
is_or (suc a) b = ap is_one (some a b)
  where
    some : (a b : ℕ) → max (suc a) b ≡ suc (max (suc a) b - 1)
    some a b = omega arith

in_both : (a b : ℕ) (choice : List Bool) → in_table (bit_and a b) choice ≡ (in_table a choice && in_table b choice)
in_both a b choice = ap is_one (bit_at_and a b (choice_place choice)) ∙ is_and (bit_at a (choice_place choice)) (bit_at b (choice_place choice))

in_either : (a b : ℕ) (choice : List Bool) → in_table (bit_or a b) choice ≡ (in_table a choice || in_table b choice)
in_either a b choice = ap is_one (bit_at_or a b (choice_place choice)) ∙ is_or (bit_at a (choice_place choice)) (bit_at b (choice_place choice))

in_none : (choice : List Bool) → in_table 0 choice ≡ false
in_none choice = ap is_one (bit_at-zero (choice_place choice))

in_all : (choice : List Bool) → length choice ≤ 6 → in_table 18446744073709551615 choice ≡ true
in_all choice le = ap is_one (bit_at_ones 64 (choice_place choice) (few_places choice le))

-- ---- one input made free

-- what a table says at a place of the choices with the bits that a set has there
abbrev TakesBits : ℕ → ℕ → ℕ → Rails → Type 0
TakesBits before after place r = (s : Store) → IsGood s → (bits : List Bool) → HasBit s bits r → (choice : List Bool) → length choice ≤ 6 → place < length choice
    → in_table after choice ≡ ((function s r.can0 bits && in_table before (set choice place false)) || (function s r.can1 bits && in_table before (set choice place true)))

free_some : (s : Store) (bits : List Bool) → IsGood s → HasBit s bits free_rails
free_some s bits d = ap (λ (b : Bool). b || function s (record { 0 = 1 }) bits) (one_bit s (record { 0 = 1 }) bits d refl)

-- such a table is settled
settled : (before after place : ℕ) (r : Rails) → TakesBits before after place r → IsSettled before after place r
settled before after place r takes s d operands bits few long l is some =
    let ws : List SymbolicSet = map (own_set_of s) operands in
    let many : length ws ≡ length operands = length-map operands (own_set_of s) in
    let own : SymbolicSet = get_or ws place (own_set_of s r) in
    let read : own ≡ own_set_of s r = get_or-map (own_set_of s) operands place r (own_set_of s r) l ∙ ap (own_set_of s) (sym is) in
    let here : HasBit s bits r = subst (HasBit s bits) (sym is) (some place r l) in
    let takes' : (choice : List Bool) → length choice ≡ length ws → in_table after choice ≡ ((own.zero bits && in_table before (set choice place false)) || (own.one bits && in_table before (set choice place true))) =
    λ choice e. takes s d bits here choice (omega (arith, e, many, few)) (omega (arith, e, many, l)) ∙ (λ i. ((sym read i).zero bits && in_table before (set choice place false)) || ((sym read i).one bits && in_table before (set choice place true))) in
    choice_freed (in_table before) (in_table after) ws bits place (own_set_of s free_rails) (own_set_of s r) (omega (arith, many, l)) (free_some s bits d) takes'
    ∙ ap (λ (vs : List SymbolicSet). some_choice (in_table after) vs bits) (sym (map-set (own_set_of s) operands place free_rails))

-- a set without 0
pub takes_one : (before after place : ℕ) (r : Rails) → r.can0.0 ≡ 0 → ((choice : List Bool) → length choice ≤ 6 → place < length choice → in_table after choice ≡ in_table before (set choice place true)) → IsSettled before after place r
takes_one before after place r none fixed = settled before after place r (λ s d bits here choice le l.
    let zero : function s r.can0 bits ≡ false = zero_bit s r.can0 bits d none in
    let one : function s r.can1 bits ≡ true = ap (λ (b : Bool). b || function s r.can1 bits) (sym zero) ∙ here in
    fixed choice le l ∙ sym (λ i. (zero i && in_table before (set choice place false)) || (one i && in_table before (set choice place true))))

or_none : (a : Bool) → (a || false) ≡ a
or_none true = refl
or_none false = refl

-- a set without 1
pub takes_zero : (before after place : ℕ) (r : Rails) → r.can1.0 ≡ 0 → ((choice : List Bool) → length choice ≤ 6 → place < length choice → in_table after choice ≡ in_table before (set choice place false)) → IsSettled before after place r
takes_zero before after place r none fixed = settled before after place r (λ s d bits here choice le l.
    let one : function s r.can1 bits ≡ false = zero_bit s r.can1 bits d none in
    let zero : function s r.can0 bits ≡ true = sym (ap (λ (b : Bool). function s r.can0 bits || b) one ∙ or_none (function s r.can0 bits)) ∙ here in
    fixed choice le l ∙ sym ((λ i. (zero i && in_table before (set choice place false)) || (one i && in_table before (set choice place true))) ∙ or_none (in_table before (set choice place false))))

-- the set of both bits
pub takes_either : (before low high place : ℕ) (r : Rails) → r.can0.0 ≡ 1 → r.can1.0 ≡ 1
    → ((choice : List Bool) → length choice ≤ 6 → place < length choice → in_table low choice ≡ in_table before (set choice place false))
    → ((choice : List Bool) → length choice ≤ 6 → place < length choice → in_table high choice ≡ in_table before (set choice place true)) → IsSettled before (bit_or low high) place r
takes_either before low high place r some some' fixed fixed' = settled before (bit_or low high) place r (λ s d bits here choice le l.
    let zero : function s r.can0 bits ≡ true = one_bit s r.can0 bits d some in
    let one : function s r.can1 bits ≡ true = one_bit s r.can1 bits d some' in
    in_either low high choice ∙ (λ i. fixed choice le l i || fixed' choice le l i) ∙ sym (λ i. (zero i && in_table before (set choice place false)) || (one i && in_table before (set choice place true))))

-- a set on which the table does not depend
pub takes_any : (before low high place : ℕ) (r : Rails) → low ≡ high
    → ((choice : List Bool) → length choice ≤ 6 → place < length choice → in_table low choice ≡ in_table before (set choice place false))
    → ((choice : List Bool) → length choice ≤ 6 → place < length choice → in_table high choice ≡ in_table before (set choice place true)) → IsSettled before low place r
takes_any before low high place r same fixed fixed' = settled before low place r (λ s d bits here choice le l.
    let other : in_table low choice ≡ in_table before (set choice place true) = ap (λ (t : ℕ). in_table t choice) same ∙ fixed' choice le l in
    sym ((λ i. (function s r.can0 bits && sym (fixed choice le l) i) || (function s r.can1 bits && sym other i)) ∙ alike_both (function s r.can0 bits) (function s r.can1 bits) (in_table low choice) here))

-- ---- tables and references that are alike

-- with one input made free
pub alike_freed : (t u : TruthTables) (ops : List Rails) (place : ℕ) (d : Rails) → length ops ≤ 6 → place < length ops → AreSettled t u place (get_or ops place d) → AreAlike t u ops (set ops place free_rails)
alike_freed t u ops place d few l a =
    let is : get_or ops place d ≡ get_or ops place (get_or ops place d) = get_or_default ops place d (get_or ops place d) l in
    let constant : (h : Held) → IsFrom h 0 (record { 0 = 1 }) = λ h. from_constant h 0 (record { 0 = 1 }) (omega arith) in
    record {
      long = length-set ops place free_rails;
      zero = λ s ds full bits long. a.zero s ds ops bits few long l is (λ n e lt. full n e lt bits long);
      one = λ s ds full bits long. a.one s ds ops bits few long l is (λ n e lt. full n e lt bits long);
      refs = λ s ds refs. All-set (AreRefs s) ops place free_rails (record { zero = constant s.held; one = constant s.held }) refs;
      full = λ s ds full. All-set (IsFull s) ops place free_rails (λ bits long. free_some s bits ds) full;
    }

-- ---- what a table decides

-- sets of full references have some bit
all_own : (s : Store) (ops : List Rails) (bits : List Bool) → length bits ≡ s.vars → All (IsFull s) ops → All (IsSome bits) (map (own_set_of s) ops)
all_own s ops bits long full = All-map (IsSome bits) (own_set_of s) ops (λ n d lt. full n d lt bits long)

few_own : (s : Store) (ops : List Rails) (choice : List Bool) → length ops ≤ 6 → length choice ≡ length (map (own_set_of s) ops) → length choice ≤ 6
few_own s ops choice few e = let many = length-map ops (own_set_of s) in omega (arith, e, many, few)

-- a table without a choice
pub none_told : (ops : List Rails) → IsDecided 0 ops (record { 0 = 0 })
none_told ops s d refs full = record {
  ref = from_constant s.held 0 (record { 0 = 0 }) (omega arith);
  value = λ bits long. zero_bit s (record { 0 = 0 }) bits d refl
      ∙ sym (choice_alike (in_table 0) (λ c. false) (map (own_set_of s) ops) bits (λ c e. in_none c) ∙ choice_each false (map (own_set_of s) ops) bits (all_own s ops bits long full));
}

-- a table with all choices
pub all_told : (ops : List Rails) → length ops ≤ 6 → IsDecided 18446744073709551615 ops (record { 0 = 1 })
all_told ops few s d refs full = record {
  ref = from_constant s.held 0 (record { 0 = 1 }) (omega arith);
  value = λ bits long. one_bit s (record { 0 = 1 }) bits d refl
      ∙ sym (choice_alike (in_table 18446744073709551615) (λ c. true) (map (own_set_of s) ops) bits (λ c e. in_all c (few_own s ops c few e)) ∙ choice_each true (map (own_set_of s) ops) bits (all_own s ops bits long full));
}

-- a table that depends on the bit at a place alone
by_bit_told : (f : Bool → Bool) (table place : ℕ) (ops : List Rails) (r : Rails) → length ops ≤ 6 → place < length ops → r ≡ get_or ops place r
    → ((choice : List Bool) → length choice ≤ 6 → place < length choice → in_table table choice ≡ f (get_or choice place false))
    → (s : Store) → All (IsFull s) ops → (bits : List Bool) → length bits ≡ s.vars → choice_of_rails table s ops bits ≡ ((function s r.can0 bits && f false) || (function s r.can1 bits && f true))
by_bit_told f table place ops r few l is tells s full bits long =
    let ws : List SymbolicSet = map (own_set_of s) ops in
    let many : length ws ≡ length ops = length-map ops (own_set_of s) in
    let own : SymbolicSet = get_or ws place (own_set_of s r) in
    let read : own ≡ own_set_of s r = get_or-map (own_set_of s) ops place r (own_set_of s r) l ∙ ap (own_set_of s) (sym is) in
    choice_alike (in_table table) (λ c. f (get_or c place false)) ws bits (λ c e. tells c (few_own s ops c few e) (omega (arith, e, many, l)))
    ∙ choice_by_bit f ws bits place (own_set_of s r) (omega (arith, many, l)) (all_own s ops bits long full)
    ∙ (λ i. ((read i).zero bits && f false) || ((read i).one bits && f true))

only_one : (z o : Bool) → ((z && false) || (o && true)) ≡ o
only_one true true = refl
only_one true false = refl
only_one false true = refl
only_one false false = refl

only_zero : (z o : Bool) → ((z && true) || (o && false)) ≡ z
only_zero true o = refl
only_zero false true = refl
only_zero false false = refl

-- the place's set decides
pub one_told : (table word place : ℕ) (ops : List Rails) (d : Rails) → length ops ≤ 6 → place < length ops → table ≡ word
    → ((choice : List Bool) → length choice ≤ 6 → place < length choice → in_table word choice ≡ get_or choice place false) → IsDecided table ops (get_or ops place d).can1
one_told table word place ops d few l same tells s ds refs full =
    let r : Rails = get_or ops place d in
    let tells' : (choice : List Bool) → length choice ≤ 6 → place < length choice → in_table table choice ≡ get_or choice place false = λ c le lt. ap (λ (t : ℕ). in_table t c) same ∙ tells c le lt in
    record {
      ref = (refs place d l).one;
      value = λ bits long. sym (by_bit_told (λ b. b) table place ops r few l (get_or_default ops place d r l) tells' s full bits long ∙ only_one (function s r.can0 bits) (function s r.can1 bits));
    }

pub zero_told : (table word place : ℕ) (ops : List Rails) (d : Rails) → length ops ≤ 6 → place < length ops → table ≡ word
    → ((choice : List Bool) → length choice ≤ 6 → place < length choice → in_table word choice ≡ not (get_or choice place false)) → IsDecided table ops (get_or ops place d).can0
zero_told table word place ops d few l same tells s ds refs full =
    let r : Rails = get_or ops place d in
    let tells' : (choice : List Bool) → length choice ≤ 6 → place < length choice → in_table table choice ≡ not (get_or choice place false) = λ c le lt. ap (λ (t : ℕ). in_table t c) same ∙ tells c le lt in
    record {
      ref = (refs place d l).zero;
      value = λ bits long. sym (by_bit_told not table place ops r few l (get_or_default ops place d r l) tells' s full bits long ∙ only_zero (function s r.can0 bits) (function s r.can1 bits));
    }

-- ---- rows

high : (choice : List Bool) → bit_at (1 + 2 * choice_place choice) 0 ≡ 1
high choice = bit_at_lowest (1 + 2 * choice_place choice) ∙ omega arith

low : (choice : List Bool) → bit_at (2 * choice_place choice) 0 ≡ 0
low choice = bit_at_lowest (2 * choice_place choice) ∙ omega arith

-- a literal admits the lowest digit
lit_match : (lit : Lit) (bit : Bool) (choice : List Bool) → is_one (lit_bit Bits lit (choice_place (bit ∷ choice))) ≡ admits lit bit
lit_match Zero true choice = ap (λ (n : ℕ). is_one (1 - n)) (high choice)
lit_match Zero false choice = ap (λ (n : ℕ). is_one (1 - n)) (low choice)
lit_match One true choice = ap is_one (high choice)
lit_match One false choice = ap is_one (low choice)
lit_match Any bit choice = refl

digits_behind : (bit : Bool) (choice : List Bool) → choice_place (bit ∷ choice) / 2 ≡ choice_place choice
digits_behind true choice = omega arith
digits_behind false choice = omega arith

row_match : (row : List Lit) (choice : List Bool) → length row ≡ length choice → is_one (row_bit Bits row (choice_place choice)) ≡ matches row choice
row_match [] [] e = refl
row_match [] (bit ∷ choice) e = absurd (omega (arith, e))
row_match (lit ∷ row) [] e = absurd (omega (arith, e))
row_match (lit ∷ row) (bit ∷ choice) e =
    let whole : ℕ = choice_place (bit ∷ choice) in
    is_and (lit_bit Bits lit whole) (row_bit Bits row (whole / 2))
    ∙ ap (λ (b : Bool). b && is_one (row_bit Bits row (whole / 2))) (lit_match lit bit choice)
    ∙ ap (λ (n : ℕ). admits lit bit && is_one (row_bit Bits row n)) (digits_behind bit choice)
    ∙ ap (λ (b : Bool). admits lit bit && b) (row_match row choice (omega (arith, e)))

rows_match : (rows : List (List Lit)) (choice : List Bool) → AreWide rows (length choice) → is_one (rows_bit Bits rows (choice_place choice)) ≡ some_matches rows choice
rows_match [] choice wide = refl
rows_match (row ∷ rows) choice wide =
    is_or (row_bit Bits row (choice_place choice)) (rows_bit Bits rows (choice_place choice))
    ∙ ap (λ (b : Bool). b || is_one (rows_bit Bits rows (choice_place choice))) (row_match row choice (All-head (λ (r : List Lit). length r ≡ length choice) row rows wide))
    ∙ ap (λ (b : Bool). matches row choice || b) (rows_match rows choice (All-tail (λ (r : List Lit). length r ≡ length choice) row rows wide))

-- a word whose bits are those of the rows is their table
pub table_of_rows : (rows : List (List Lit)) (n word : ℕ) → AreWide rows n → n ≤ 6 → ((choice : ℕ) → choice < 64 → bit_at word choice ≡ rows_bit Bits rows choice)
    → (choice : List Bool) → length choice ≡ n → in_table word choice ≡ some_matches rows choice
table_of_rows rows n word wide few told choice e =
    ap is_one (told (choice_place choice) (few_places choice (omega (arith, e, few)))) ∙ rows_match rows choice (subst (AreWide rows) (sym e) wide)
