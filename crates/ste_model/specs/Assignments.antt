-- Meaning, and a law: assignments, a bit for each declared variable, and their order.
use Rattle.std.specs.Prelude.{◌≡◌, ℕ, Bool, false, true, List, length, take, slice_get, Some, IsTrue, ◌⊎◌, ◌↔◌}

-- some assignment of so many variables has the property
abbrev pub SomeAssignment : ℕ → (List Bool → Type 0) → Type 0
SomeAssignment vars P = (bits : List Bool) × (length bits ≡ vars) × P bits

-- each assignment of so many variables has the property
abbrev pub EachAssignment : ℕ → (List Bool → Type 0) → Type 0
EachAssignment vars P = (bits : List Bool) → length bits ≡ vars → P bits

-- the function is 1 at just the assignments that have the property
abbrev pub Tells : ℕ → (List Bool → Bool) → (List Bool → Type 0) → Type 0
Tells vars function P = (bits : List Bool) → length bits ≡ vars → IsTrue (function bits) ↔ P bits

-- the one assignment stands before the other: at the first variable where they differ it has 0, and
-- the other has 1
pub record IsBefore (one other : List Bool) : Type 0 where
  pub place : ℕ
  pub same : take place one ≡ take place other
  pub earlier : slice_get one place ≡ Some false
  pub later : slice_get other place ≡ Some true

-- Law: of two assignments of the same variables that are not one, one stands before the other, and
-- only one does.
pub record AssignmentsAreOrdered : Type 0 where
  pub either : (one other : List Bool) → length one ≡ length other →
      (one ≡ other) ⊎ (IsBefore one other ⊎ IsBefore other one)
  pub once : (one other : List Bool) → IsBefore one other → ¬ IsBefore other one
