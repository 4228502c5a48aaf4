-- For private functions. What a check by sets of bits decides of an exact check.
use Rattle.std.specs.Prelude.{◌≡◌, ◌≤◌, ℕ, Bool, List, Option, None, Some, length, take}
use Rattle.dd_nodes.specs.Stores.{Store}
use Rattle.net_core.specs.declared.raw.RawNet.{RawNet}
use Rattle.ste_model.specs.declared.task.Assertion.{Assertion}
use Rattle.ste_model.specs.Assignments.{EachAssignment, IsBefore}
use Rattle.ste_model.specs.Found.{IsStrong}
use Rattle.ste_model.specs.Need.{ReadBelow}
use Rattle.exact_model.specs.Bindable.{IsBoundOver}
use Rattle.exact_model.specs.Exact.{IsExactlyStrong}
use Rattle.exact_engine.specs.declared.quick.Quick.{Quick}
use Rattle.exact_engine.specs.private.Reporting.{IsShownExactly, TellSets}

-- what was found is all that is reported
pub record IsQuick (net : RawNet) (vars : ℕ) (task : Assertion) (s : Store) (quick : Quick) :
    Type 0 where
  pub sets : TellSets net vars task s quick.sets
  pub shown : IsShownExactly net vars task quick.shown

-- an assertion whose antecedent is bindable, and whose expressions read these variables
pub record IsBoundBelow (net : RawNet) (vars : ℕ) (task : Assertion) : Type 0 where
  pub bound : IsBoundOver net task
  pub reads_ant : ReadBelow vars task.ant
  pub reads_con : ReadBelow vars task.con

-- the list is strong by sets, and begins with the least assignment that is exactly strong
pub record IsLeastStrong (net : RawNet) (vars : ℕ) (task : Assertion) (all : List Bool) :
    Type 0 where
  pub room : vars ≤ length all
  pub strong : IsStrong net task all
  pub least : (bits : List Bool) → length bits ≡ vars → IsExactlyStrong net task bits →
      ¬ IsBefore bits (take vars all)

-- that list, or that no assignment is exactly strong
abbrev pub IsLeastStrongOf : RawNet → ℕ → Assertion → Option (List Bool) → Type 0
IsLeastStrongOf net vars task None = EachAssignment vars (λ bits. ¬ IsExactlyStrong net task bits)
IsLeastStrongOf net vars task (Some all) = IsLeastStrong net vars task all
