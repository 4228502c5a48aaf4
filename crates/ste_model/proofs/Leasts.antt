-- A set has one least assignment at most.
use Rattle.std.proofs.Common.{◌≡◌, ℕ, Bool, List, sym, ◌∙◌, inl, inr}
use Rattle.std.specs.Prelude.{IsTrue}
use Rattle.ste_model.specs.Least.{IsLeast, OneLeast}
use Rattle.ste_model.proofs.Orders.{assignments_are_ordered}

-- a property has one least assignment at most
pub one_least_with : (vars : ℕ) (P : List Bool → Type 0) (one other : List Bool) → IsLeast vars P one → IsLeast vars P other → one ≡ other
one_least_with vars P one other a b = elim (assignments_are_ordered.either one other (a.long ∙ sym b.long)) [
  | inl same ↦ same
  | inr before ↦ elim before [
    | inl first ↦ absurd (b.least one a.long a.has first)
    | inr second ↦ absurd (a.least other b.long b.has second)
  ]
]

pub one_least : OneLeast
one_least vars set = one_least_with vars (λ bits. IsTrue (set bits))
