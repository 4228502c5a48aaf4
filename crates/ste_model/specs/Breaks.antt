-- Meaning, and a law: where a run breaks the consequent of an assertion.
use Rattle.std.specs.Prelude.{◌≡◌, ◌⊎◌, ℕ, ◌<◌, Bool, not, List, IsTrue, Some, slice_get}
use Rattle.net_core.specs.Run.{Cut}
use Rattle.ste_model.specs.declared.task.Assertion.{Assertion}
use Rattle.ste_model.specs.Asked.{cuts_at, depth}
use Rattle.ste_model.specs.Holds.{RunMeets}

-- the bits of one time break a cut: it is on, and its net has the opposite bit
abbrev pub Breaks : (ℕ → Bool) → Cut → Type 0
Breaks bit cut = IsTrue cut.on × (bit cut.node ≡ not cut.value)

-- The run breaks the consequent at time t and at its quintuple of number k: this is the first one
-- in text order that applies there and whose net has the opposite bit.
pub record BreaksAt (task : Assertion) (bits : List Bool) (run : ℕ → ℕ → Bool) (t k : ℕ) :
    Type 0 where
  pub cut : Cut
  pub within : t < depth task
  pub here : slice_get (cuts_at task.con bits t) k ≡ Some cut
  pub broken : Breaks (run t) cut
  pub first : (j : ℕ) (other : Cut) → j < k → slice_get (cuts_at task.con bits t) j ≡ Some other →
      ¬ Breaks (run t) other

-- Law: a run meets the consequent, or breaks it at some place, and not both.
pub record MeetsOrBreaks : Type 0 where
  pub either : (task : Assertion) (bits : List Bool) (run : ℕ → ℕ → Bool) →
      RunMeets (cuts_at task.con bits) run ⊎ ((t : ℕ) × (k : ℕ) × BreaksAt task bits run t k)
  pub once : (task : Assertion) (bits : List Bool) (run : ℕ → ℕ → Bool) (t k : ℕ) →
      BreaksAt task bits run t k → ¬ RunMeets (cuts_at task.con bits) run
