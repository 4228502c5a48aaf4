-- Meaning, and a law. The least assignment with a property.
use Rattle.std.specs.Prelude.{◌≡◌, ℕ, Bool, false, List, length, IsTrue, Option, None, Some}
use Rattle.ste_model.specs.Assignments.{EachAssignment, IsBefore}
use Rattle.ste_base.specs.Functions.{Function}

-- the assignment has the property, and none that stands before it has
pub record IsLeast (vars : ℕ) (P : List Bool → Type 0) (bits : List Bool) : Type 0 where
  pub long : length bits ≡ vars
  pub has : P bits
  pub least : (other : List Bool) → length other ≡ vars → P other → ¬ IsBefore other bits

-- Law: a set of assignments has one least assignment at most.
abbrev pub OneLeast : Type 0
OneLeast =
    (vars : ℕ) (set : Function) (one other : List Bool) →
    IsLeast vars (λ bits. IsTrue (set bits)) one → IsLeast vars (λ bits. IsTrue (set bits)) other →
    one ≡ other

-- what is reported of a set of assignments: its least one, or that it has none
abbrev pub IsLeastOf : ℕ → Function → Option (List Bool) → Type 0
IsLeastOf vars set None = EachAssignment vars (λ bits. set bits ≡ false)
IsLeastOf vars set (Some bits) = IsLeast vars (λ other. IsTrue (set other)) bits
