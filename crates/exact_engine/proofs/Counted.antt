-- How many choices there are.
use Rattle.std.proofs.Common.{◌≡◌, ℕ, zero, suc, ◌+◌, ◌*◌, Bool, true, false, [], ◌∷◌, ◌++◌, length, refl, sym, ◌∙◌, ap, arith}
use Rattle.std.specs.Prelude.{if◌then◌else◌}
use Rattle.std.proofs.lemmas.List.{length-append}
use Rattle.std.proofs.Math.Nat.{suc-mul, zero-mul}
use Rattle.net_core.specs.declared.raw.RawNet.{RawNet}
use Rattle.ste_model.specs.declared.task.Assertion.{Assertion}
use Rattle.ste_model.specs.Asked.{depth}
use Rattle.exact_model.specs.Choices.{cells_at, choices, input_cells}
use Rattle.exact_engine.specs.private.Counts.{first_count, first_test, open_count, open_test}

-- as many cells at one time as at another
pub cells_long : (passes : ℕ → Bool) (t u n : ℕ) → length (cells_at passes t n) ≡ length (cells_at passes u n)
cells_long passes t u zero = refl
cells_long passes t u (suc n) = by (passes n) (cells_long passes t u n)
  where
    by : (b : Bool) → length (cells_at passes t n) ≡ length (cells_at passes u n)
        → length (if b then cells_at passes t n ++ record { time = t; net = n } ∷ [] else cells_at passes t n)
        ≡ length (if b then cells_at passes u n ++ record { time = u; net = n } ∷ [] else cells_at passes u n)
    by true e = simp (length-append) (omega (arith, e))
    by false e = e

pub inputs_long : (net : RawNet) (n : ℕ) → length (input_cells net n) ≡ n * open_count net
inputs_long net zero = sym (zero-mul (open_count net))
inputs_long net (suc n) =
    let here = length-append (input_cells net n) (cells_at (open_test net) n net.nets) in
    let before = inputs_long net n in
    let same = cells_long (open_test net) n 0 net.nets in
    let more : suc n * open_count net ≡ n * open_count net + open_count net = suc-mul n (open_count net) in
    omega (arith, here, before, same, more)

pub choices_long : (net : RawNet) (task : Assertion) → length (choices net task) ≡ first_count net task.reset + depth task * open_count net
choices_long net task =
    length-append (cells_at (first_test net task.reset) 0 net.nets) (input_cells net (depth task))
    ∙ ap (λ (n : ℕ). first_count net task.reset + n) (inputs_long net (depth task))
