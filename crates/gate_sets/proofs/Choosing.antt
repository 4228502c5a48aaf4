-- Gates of few inputs whose sets are constants: the bits of words for all choices are the sets that the gates give.
use Rattle.std.proofs.Common.{◌≡◌, ◌≢◌, ℕ, zero, suc, ◌+◌, ◌-◌, ◌*◌, ◌/◌, ◌<◌, min, max, Bool, true, false, not, List, [], ◌∷◌, length, arith, refl, sym, ap, ◌∙◌, inl, inr}
use Rattle.std.specs.Prelude.{All, IsTrue, ◌&&◌, ◌||◌}
use Rattle.std.specs.Int.{bit_at}
use Rattle.std.proofs.lemmas.Bool.{cases_eq}
use Rattle.std.proofs.lemmas.List.Elements.{All-head, All-tail}
use Rattle.std.proofs.lemmas.Nat.Bits.{bit_at_lowest, bit_at-suc}
use Rattle.ste_base.specs.declared.id.NodeId.{NodeId}
use Rattle.dd_nodes.specs.declared.node.Ref.{Ref}
use Rattle.dd_nodes.specs.Stores.{Store, Means, function}
use Rattle.dd_nodes.proofs.Stores.{IsGood}
use Rattle.dd_nodes.proofs.Walks.{from_constant}
use Rattle.dd_ops.proofs.Terminal.{one_bit, zero_bit}
use Rattle.net_core.specs.declared.cover.Lit.{Lit}
use Rattle.net_core.specs.declared.cover.Lit.TheVariants.{Zero, One, Any}
use Rattle.ste_base.specs.Functions.{Function}
use Rattle.net_core.specs.Work.{SymbolicSet, AreWide, always, conjunction, disjunction, factor, factors, gate_set, never, product, row_products, sum, whole}
use Rattle.gate_sets.specs.declared.choices.Choices.{Choices}
use Rattle.gate_sets.specs.declared.net_rails.NetRails.{NetRails}
use Rattle.gate_sets.specs.declared.words.Digits.TheVariants.{Sets}
use Rattle.gate_sets.specs.private.Choices.{AreChoices, IsChoice, choice_at}
use Rattle.gate_sets.specs.private.Words.{lit_bit, row_bit, rows_bit}
use Rattle.gate_sets.proofs.WordBits.{bit_small}
use Rattle.gate_sets.specs.NetSets.{AreNetRails, HaveInputs, net_at, sets_at}

-- ---- functions

-- a bit as a truth value
abbrev truth : ℕ → Bool
truth zero = false
truth (suc n) = true

truth_min : (a b : ℕ) → truth (min a b) ≡ (truth a && truth b)
truth_min zero b = ap truth (none b)
  where
    none : (b : ℕ) → min 0 b ≡ 0
    none b = omega arith
truth_min (suc a) zero = ap truth (none a)
  where
    none : (a : ℕ) → min (suc a) 0 ≡ 0
    none a = omega arith
truth_min (suc a) (suc b) = ap truth (least a b)
  where
    least : (a b : ℕ) → min (suc a) (suc b) ≡ suc (min a b)
    least a b = omega arith

truth_max : (a b : ℕ) → truth (max a b) ≡ (truth a || truth b)
truth_max zero b = ap truth (most b)
  where
    most : (b : ℕ) → max 0 b ≡ b
    most b = omega arith
truth_max (suc a) b = ap truth (some a b)
  where
    some : (a b : ℕ) → max (suc a) b ≡ suc (max (suc a) b - 1)
    some a b = omega arith

-- a constant's function
constant_truth : (s : Store) (r : Ref) (bits : List Bool) → IsGood s → r.0 < 2 → function s r bits ≡ truth r.0
constant_truth s r bits d l = elim (cases_eq r.0 0) as (λ _. function s r bits ≡ truth r.0) [
  | inl none ↦ zero_bit s r bits d none ∙ ap truth (sym none)
  | inr some ↦ let one : r.0 ≡ 1 = omega (arith, l, some) in one_bit s r bits d one ∙ ap truth (sym one)
]

-- the digits of a number
low_bit : (a b n : ℕ) → a < 2 → b < 2 → bit_at (a + 2 * b + 4 * n) 0 ≡ a
low_bit a b n la lb = bit_at_lowest (a + 2 * b + 4 * n) ∙ omega (arith, la, lb)

high_bit : (a b n : ℕ) → a < 2 → b < 2 → bit_at (a + 2 * b + 4 * n) 1 ≡ b
high_bit a b n la lb = bit_at-suc (a + 2 * b + 4 * n) 0 ∙ bit_at_lowest ((a + 2 * b + 4 * n) / 2) ∙ omega (arith, la, lb)

digits_on : (a b n : ℕ) → a < 2 → b < 2 → (a + 2 * b + 4 * n) / 4 ≡ n
digits_on a b n la lb = omega (arith, la, lb)

module _ (s : Store) (d : IsGood s) (sets : ℕ → SymbolicSet) (nets : List NetRails) (bits : List Bool) (long : length bits ≡ s.vars) where
  -- whether a constant set has 0, and whether it has 1
  zero_truth : (input : NodeId) (n : ℕ) → AreNetRails s (sets input.0) (net_at nets input.0) → (net_at nets input.0).can0.0 < 2 → (net_at nets input.0).can1.0 < 2
      → (sets input.0).zero bits ≡ truth (bit_at ((net_at nets input.0).can0.0 + 2 * (net_at nets input.0).can1.0 + 4 * n) 0)
  zero_truth input n have a b = sym (have.zero.value bits long) ∙ constant_truth s (net_at nets input.0).can0 bits d a ∙ ap truth (sym (low_bit _ _ n a b))

  one_truth : (input : NodeId) (n : ℕ) → AreNetRails s (sets input.0) (net_at nets input.0) → (net_at nets input.0).can0.0 < 2 → (net_at nets input.0).can1.0 < 2
      → (sets input.0).one bits ≡ truth (bit_at ((net_at nets input.0).can0.0 + 2 * (net_at nets input.0).can1.0 + 4 * n) 1)
  one_truth input n have a b = sym (have.one.value bits long) ∙ constant_truth s (net_at nets input.0).can1 bits d b ∙ ap truth (sym (high_bit _ _ n a b))

  -- what a literal admits of a constant set
  lit_truth : (lit : Lit) (input : NodeId) (n : ℕ) → AreNetRails s (sets input.0) (net_at nets input.0) → (net_at nets input.0).can0.0 < 2 → (net_at nets input.0).can1.0 < 2
      → factor lit (sets input.0) bits ≡ truth (lit_bit Sets lit ((net_at nets input.0).can0.0 + 2 * (net_at nets input.0).can1.0 + 4 * n))
  lit_truth Zero input n have a b = zero_truth input n have a b
  lit_truth One input n have a b = one_truth input n have a b
  lit_truth Any input n have a b =
      let all : ℕ = (net_at nets input.0).can0.0 + 2 * (net_at nets input.0).can1.0 + 4 * n in
      ap (λ (p : Bool). p || (sets input.0).one bits) (zero_truth input n have a b) ∙ ap (λ (p : Bool). truth (bit_at all 0) || p) (one_truth input n have a b) ∙ sym (truth_max (bit_at all 0) (bit_at all 1))

  and_in : (a b c : Bool) → ((a && b) && c) ≡ (a && (b && c))
  and_in true b c = refl
  and_in false b c = refl

  and_one : (a : Bool) → a ≡ (a && true)
  and_one true = refl
  and_one false = refl

  or_in : (a b c : Bool) → ((a || b) || c) ≡ (a || (b || c))
  or_in true b c = refl
  or_in false b c = refl

  or_zero : (a : Bool) → a ≡ (a || false)
  or_zero true = refl
  or_zero false = refl

  -- a product so far with what is left of a row
  row_truth : (f : Function) (row : List Lit) (inputs : List NodeId) → length row ≡ length inputs → HaveInputs s sets nets inputs → All (λ input. (net_at nets input.0).can0.0 < 2) inputs → All (λ input. (net_at nets input.0).can1.0 < 2) inputs
      → whole conjunction f (factors row (sets_at sets inputs)) bits ≡ (f bits && truth (row_bit Sets row (choice_at nets inputs)))
  row_truth f [] inputs wide have zeros ones = and_one (f bits)
  row_truth f (lit ∷ row) [] wide have zeros ones = absurd (omega (arith, wide))
  row_truth f (lit ∷ row) (input ∷ inputs) wide have zeros ones =
      let r : NetRails = net_at nets input.0 in
      let a = All-head (λ (input : NodeId). (net_at nets input.0).can0.0 < 2) input inputs zeros in
      let b = All-head (λ (input : NodeId). (net_at nets input.0).can1.0 < 2) input inputs ones in
      let n : ℕ = choice_at nets inputs in
      let whole_choice : ℕ = r.can0.0 + 2 * r.can1.0 + 4 * n in
      row_truth (conjunction f (factor lit (sets input.0))) row inputs (omega (arith, wide)) (All-tail (λ (node : NodeId). AreNetRails s (sets node.0) (net_at nets node.0)) input inputs have)
      (All-tail (λ (input : NodeId). (net_at nets input.0).can0.0 < 2) input inputs zeros) (All-tail (λ (input : NodeId). (net_at nets input.0).can1.0 < 2) input inputs ones)
      ∙ and_in (f bits) (factor lit (sets input.0) bits) (truth (row_bit Sets row n))
      ∙ ap (λ (p : Bool). f bits && (p && truth (row_bit Sets row n))) (lit_truth lit input n (All-head (λ (node : NodeId). AreNetRails s (sets node.0) (net_at nets node.0)) input inputs have) a b)
      ∙ ap (λ (m : ℕ). f bits && (truth (lit_bit Sets lit whole_choice) && truth (row_bit Sets row m))) (sym (digits_on r.can0.0 r.can1.0 n a b))
      ∙ ap (λ (p : Bool). f bits && p) (sym (truth_min (lit_bit Sets lit whole_choice) (row_bit Sets row (whole_choice / 4))))

  -- a sum so far with what is left of the rows
  rows_truth : (f : Function) (rows : List (List Lit)) (inputs : List NodeId) → AreWide rows (length inputs) → HaveInputs s sets nets inputs → All (λ input. (net_at nets input.0).can0.0 < 2) inputs → All (λ input. (net_at nets input.0).can1.0 < 2) inputs
      → whole disjunction f (row_products rows (sets_at sets inputs)) bits ≡ (f bits || truth (rows_bit Sets rows (choice_at nets inputs)))
  rows_truth f [] inputs wide have zeros ones = or_zero (f bits)
  rows_truth f (row ∷ rows) inputs wide have zeros ones =
      let n : ℕ = choice_at nets inputs in
      let here = All-head (λ (row : List Lit). length row ≡ length inputs) row rows wide in
      let p : Function = product (factors row (sets_at sets inputs)) in
      rows_truth (disjunction f p) rows inputs (All-tail (λ (row : List Lit). length row ≡ length inputs) row rows wide) have zeros ones
      ∙ or_in (f bits) (p bits) (truth (rows_bit Sets rows n))
      ∙ ap (λ (q : Bool). f bits || (q || truth (rows_bit Sets rows n))) (row_truth always row inputs here have zeros ones)
      ∙ ap (λ (q : Bool). f bits || q) (sym (truth_max (row_bit Sets row n) (rows_bit Sets rows n)))

-- where a bit of a word is that of the rows, the constant is their sum
bit_means : (s : Store) → IsGood s → (sets : ℕ → SymbolicSet) (nets : List NetRails) (inputs : List NodeId) (rows : List (List Lit)) (word choice : ℕ) (r : Ref) → AreWide rows (length inputs) → IsChoice nets inputs choice
    → bit_at word choice ≡ rows_bit Sets rows choice → HaveInputs s sets nets inputs → r.0 ≡ bit_at word choice → Means s (sum (row_products rows (sets_at sets inputs))) r
bit_means s d sets nets inputs rows word choice r wide is told have same =
    let small : r.0 < 2 = let b = bit_small word choice in omega (arith, same, b) in record {
      ref = from_constant s.held 0 r small;
      value = λ bits l. constant_truth s r bits d small ∙ ap truth (same ∙ told ∙ ap (rows_bit Sets rows) is.is) ∙ sym (rows_truth s d sets nets bits l never rows inputs wide have is.zero is.one);
    }

-- two constants that differ
apart : (a b : ℕ) → a < 2 → b < 2 → a ≢ b → truth a ≡ not (truth b)
apart zero zero la lb ne = absurd (ne refl)
apart zero (suc b) la lb ne = refl
apart (suc a) zero la lb ne = refl
apart (suc a) (suc b) la lb ne = absurd (ne (omega (arith, la, lb)))

-- the set that the words give is the gate's
pub choice_net : (s : Store) → IsGood s → (sets : ℕ → SymbolicSet) (nets : List NetRails) (inputs : List NodeId) (on off : List (List Lit)) (c : Choices) (choice : ℕ) (r : NetRails) → AreWide on (length inputs) → AreWide off (length inputs)
    → AreChoices on off c → IsChoice nets inputs choice → choice < 64 → HaveInputs s sets nets inputs → r.can0.0 ≡ bit_at c.can0 choice → r.can1.0 ≡ bit_at c.can1 choice → r.some.0 ≡ max r.can0.0 r.can1.0
    → (IsTrue r.known → r.can0.0 ≢ r.can1.0) → AreNetRails s (gate_set on off (sets_at sets inputs)) r
choice_net s d sets nets inputs on off c choice r wide_on wide_off told is l have low high some known =
    let w : SymbolicSet = gate_set on off (sets_at sets inputs) in
    let x : r.can0.0 < 2 = let b = bit_small c.can0 choice in omega (arith, low, b) in
    let y : r.can1.0 < 2 = let b = bit_small c.can1 choice in omega (arith, high, b) in
    let zero_is : Means s w.zero r.can0 = bit_means s d sets nets inputs off c.can0 choice r.can0 wide_off is (told.zero choice l) have low in
    let one_is : Means s w.one r.can1 = bit_means s d sets nets inputs on c.can1 choice r.can1 wide_on is (told.one choice l) have high in
    let has_zero : (bits : List Bool) → length bits ≡ s.vars → truth r.can0.0 ≡ w.zero bits = λ bits long. sym (constant_truth s r.can0 bits d x) ∙ zero_is.value bits long in
    let has_one : (bits : List Bool) → length bits ≡ s.vars → truth r.can1.0 ≡ w.one bits = λ bits long. sym (constant_truth s r.can1 bits d y) ∙ one_is.value bits long in
    record {
      zero = zero_is;
      one = one_is;
      some = record {
        ref = from_constant s.held 0 r.some (omega (arith, some, x, y));
        value = λ bits long. constant_truth s r.some bits d (omega (arith, some, x, y)) ∙ ap truth some ∙ truth_max r.can0.0 r.can1.0
            ∙ ap (λ (p : Bool). p || truth r.can1.0) (has_zero bits long) ∙ ap (λ (p : Bool). w.zero bits || p) (has_one bits long);
      };
      known = λ yes bits long. sym (has_zero bits long) ∙ apart r.can0.0 r.can1.0 x y (known yes) ∙ ap not (has_one bits long);
    }
