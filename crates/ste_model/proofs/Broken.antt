-- A run meets the consequent, or breaks it at some place.
use Rattle.std.proofs.Common.{◌≡◌, ℕ, ◌<◌, zero, suc, Bool, true, false, not, List, [], ◌∷◌, arith, refl, subst, inl, inr}
use Rattle.std.specs.Prelude.{IsTrue, ◌⊎◌, Some, slice_get}
use Rattle.std.proofs.lemmas.List.Elements.{All-nil, All-cons, All-head, All-tail}
use Rattle.std.proofs.Math.Decide.{dec_lt}
use Rattle.net_core.specs.Run.{Cut, Meets}
use Rattle.net_core.proofs.Possible.{and_or_not, same_or_not}
use Rattle.ste_model.specs.declared.task.Assertion.{Assertion}
use Rattle.ste_model.specs.Asked.{cuts_at, depth}
use Rattle.ste_model.specs.Holds.{RunMeets}
use Rattle.ste_model.specs.Breaks.{Breaks, BreaksAt, MeetsOrBreaks}
use Rattle.ste_model.proofs.Passes.{each_to, on_below}

-- the first cut that is broken, by its number
pub record IsFirstBroken (bit : ℕ → Bool) (cuts : List Cut) (k : ℕ) : Type 0 where
  pub cut : Cut
  pub here : slice_get cuts k ≡ Some cut
  pub broken : Breaks bit cut
  pub first : (j : ℕ) (other : Cut) → j < k → slice_get cuts j ≡ Some other → ¬ Breaks bit other

breaks_or_not : (bit : ℕ → Bool) (cut : Cut) → Dec (Breaks bit cut)
breaks_or_not bit cut = and_or_not (same_or_not cut.on true) (same_or_not (bit cut.node) (not cut.value))

same_or_opposite : (a b : Bool) → ¬ (a ≡ not b) → a ≡ b
same_or_opposite false false h = refl
same_or_opposite false true h = absurd (h refl)
same_or_opposite true false h = absurd (h refl)
same_or_opposite true true h = refl

opposite_differs : (a b : Bool) → a ≡ b → a ≡ not b → ⊥
opposite_differs a false e f = cc
opposite_differs a true e f = cc

later : (bit : ℕ → Bool) (cut : Cut) (cuts : List Cut) (k : ℕ) → ¬ Breaks bit cut → IsFirstBroken bit cuts k → IsFirstBroken bit (cut ∷ cuts) (suc k)
later bit cut cuts k kept h = record { cut = h.cut; here = h.here; broken = h.broken; first = earlier }
  where
    earlier : (j : ℕ) (other : Cut) → j < suc k → slice_get (cut ∷ cuts) j ≡ Some other → ¬ Breaks bit other
    earlier zero other l e breaks = let same : other ≡ cut = cc in kept (subst (Breaks bit) same breaks)
    earlier (suc j) other l e breaks = h.first j other (omega arith) e breaks

meets_or_first : (bit : ℕ → Bool) (cuts : List Cut) → Meets cuts bit ⊎ ((k : ℕ) × IsFirstBroken bit cuts k)
meets_or_first bit [] = inl (All-nil (λ cut. IsTrue cut.on → bit cut.node ≡ cut.value))
meets_or_first bit (cut ∷ cuts) = elim (breaks_or_not bit cut) [
  | yes h ↦ inr (0, record { cut = cut; here = refl; broken = h; first = λ j other l. absurd (omega arith) })
  | no h ↦ elim (meets_or_first bit cuts) [
    | inl all ↦ inl (All-cons (λ c. IsTrue c.on → bit c.node ≡ c.value) cut cuts (λ on. same_or_opposite (bit cut.node) cut.value (λ e. h (on, e))) all)
    | inr some ↦ inr (suc some.0, later bit cut cuts some.0 h some.1)
  ]
]

-- at each time below n, or at one of them
below : (task : Assertion) (bits : List Bool) (run : ℕ → ℕ → Bool) (n : ℕ) → ((t : ℕ) → t < n → Meets (cuts_at task.con bits t) (run t)) ⊎ ((t : ℕ) × (t < n) × (k : ℕ) × IsFirstBroken (run t) (cuts_at task.con bits t) k)
below task bits run zero = inl (λ t l. absurd (omega arith))
below task bits run (suc n) = elim (below task bits run n) [
  | inr some ↦ inr (some.0, omega (arith, some.1), some.2, some.3)
  | inl all ↦ elim (meets_or_first (run n) (cuts_at task.con bits n)) [
    | inl here ↦ inl (λ t l. up_to all here t l)
    | inr some ↦ inr (n, omega arith, some.0, some.1)
  ]
]
  where
    up_to : ((t : ℕ) → t < n → Meets (cuts_at task.con bits t) (run t)) → Meets (cuts_at task.con bits n) (run n) → (t : ℕ) → t < suc n → Meets (cuts_at task.con bits t) (run t)
    up_to all here t l = elim (dec_lt t n) [
      | yes m ↦ all t m
      | no m ↦ let last : n ≡ t = omega (arith, l, m) in subst (λ (u : ℕ). Meets (cuts_at task.con bits u) (run u)) last here
    ]

either : (task : Assertion) (bits : List Bool) (run : ℕ → ℕ → Bool) → RunMeets (cuts_at task.con bits) run ⊎ ((t : ℕ) × (k : ℕ) × BreaksAt task bits run t k)
either task bits run = elim (below task bits run (depth task)) [
  | inr some ↦ inr (some.0, some.2, record { cut = some.3.cut; within = some.1; here = some.3.here; broken = some.3.broken; first = some.3.first })
  | inl all ↦ inl (λ t k d l on. all t (on_below bits t (depth task) task.con (λ i e m. let h = each_to task.con 0 i e m in omega arith) k d l on) k d l on)
]

not_met : (bit : ℕ → Bool) (cuts : List Cut) (k : ℕ) (cut : Cut) → slice_get cuts k ≡ Some cut → Breaks bit cut → ¬ Meets cuts bit
not_met bit [] k cut e broken meets = cc
not_met bit (first ∷ cuts) zero cut e broken meets =
    let same : first ≡ cut = cc in
    let here = subst (λ (c : Cut). IsTrue c.on → bit c.node ≡ c.value) same (All-head (λ c. IsTrue c.on → bit c.node ≡ c.value) first cuts meets) in
    opposite_differs (bit cut.node) cut.value (here broken.0) broken.1
not_met bit (first ∷ cuts) (suc k) cut e broken meets = not_met bit cuts k cut e broken (All-tail (λ c. IsTrue c.on → bit c.node ≡ c.value) first cuts meets)

pub meets_or_breaks : MeetsOrBreaks
meets_or_breaks = record {
  either = either;
  once = λ task bits run t k h meets. not_met (run t) (cuts_at task.con bits t) k h.cut h.here h.broken (meets t);
}
