-- The walk of a word through the slots.
use Rattle.std.proofs.Common.{◌≡◌, ◌≢◌, ℕ, suc, ◌+◌, ◌-◌, ◌%◌, ◌<◌, ◌≤◌, sym, ap, ◌∙◌, arith, mod-lt, lt_of_not-le}
use Rattle.std.proofs.Math.Nat.{mod-add-mod, mod-eq_of_lt, add-mod_right}
use mathlib.Core.Logic.{dite}
use native.Mathlib.Decide.{dec_le}
use Rattle.atomic_table.proofs.Lists.{one_turn}
use Rattle.dd_table.specs.Layout.{home_slot, walk_slot}
use Rattle.dd_table.proofs.Layouts.{home_lt}

pub lt_of_le : (a b : ℕ) → a ≤ b → a ≢ b → a < b
lt_of_le a b le ne = dite (dec_le (suc a) b) (λ x. x) (λ x. let lt : b < suc a = lt_of_not-le x in absurd (ne (omega arith)))

pub walk_lt : (slots w k : ℕ) → 0 < slots → walk_slot slots w k < slots
unfolding walk_slot
walk_lt slots w k h = mod-lt (home_slot slots w + k) h

-- the first `slots` slots of a walk are different
pub walk_once : (slots w n k : ℕ) → n < slots → k < slots → walk_slot slots w n ≡ walk_slot slots w k → n ≡ k
unfolding walk_slot
walk_once slots w n k a b e =
    let home = home_slot slots w in
    dite (dec_le n k)
    (λ le. let t : home + n ≡ home + k = one_turn (home + n) (home + k) slots (omega arith) (omega arith) e in omega arith)
    (λ not.
    let lt : k < n = lt_of_not-le not in
    let t : home + k ≡ home + n = one_turn (home + k) (home + n) slots (omega arith) (omega arith) (sym e) in
    omega arith)

-- each slot is on the walk of each word
pub walk_to : (slots w s : ℕ) → s < slots → (n : ℕ) × (n < slots) × (walk_slot slots w n ≡ s)
unfolding walk_slot
walk_to slots w s h =
    let home = home_slot slots w in
    let near = home_lt slots w (omega arith) in
    dite (dec_le home s)
    (λ le.
    let e : home + (s - home) ≡ s = omega arith in
    (s - home, omega arith, ap (λ (y : ℕ). y % slots) e ∙ mod-eq_of_lt h))
    (λ not.
    let lt : s < home = lt_of_not-le not in
    let e : home + (s + slots - home) ≡ s + slots = omega arith in
    (s + slots - home, omega arith, ap (λ (y : ℕ). y % slots) e ∙ add-mod_right s slots ∙ mod-eq_of_lt h))

-- one slot further
pub walk_next : (slots w n : ℕ) → (walk_slot slots w n + 1) % slots ≡ walk_slot slots w (n + 1)
unfolding walk_slot
walk_next slots w n =
    let e : home_slot slots w + n + 1 ≡ home_slot slots w + (n + 1) = omega arith in
    mod-add-mod (home_slot slots w + n) slots 1 ∙ ap (λ (y : ℕ). y % slots) e
