-- Meaning, and laws. How many steps the exact check of an assertion needs, and which functions it
-- keeps: this project's own choice.
use Rattle.std.specs.Prelude.{◌≡◌, ℕ, ◌+◌, List, [], ◌∷◌, length}
use Rattle.dd_nodes.specs.Functions.{node_count}
use Rattle.net_core.specs.declared.raw.RawNet.{RawNet}
use Rattle.net_core.specs.Flat.{HasOneDriver, IsInRange}
use Rattle.net_core.specs.Run.{IsSettled}
use Rattle.ste_base.specs.Functions.{Function}
use Rattle.ste_model.specs.declared.task.Assertion.{Assertion}
use Rattle.ste_model.specs.Assignments.{Tells}
use Rattle.exact_model.specs.Choices.{choices}
use Rattle.exact_model.specs.Exact.{IsExactlyContradictory, IsExactlyStrong, IsOverNet, IsSoundFor}
use Rattle.exact_model.specs.ExactWork.{AreExactBits, exact_work, exactly_contradictory_where, exactly_strong_where}

-- the exact need: the number of nodes of the exact work functions, over the variables and the
-- choices
abbrev pub IsExactNeed : RawNet → ℕ → Assertion → ℕ → Type 0
IsExactNeed net vars task need =
    (bit : ℕ → ℕ → Function) × AreExactBits net vars task bit
    × (need ≡ node_count (vars + length (choices net task)) (exact_work net vars task bit))

-- the kept functions of an exact check: the sets of the exactly strong and of the exactly
-- contradictory assignments
abbrev pub exact_kept : RawNet → ℕ → Assertion → (ℕ → ℕ → Function) → List Function
exact_kept net vars task bit =
    exactly_strong_where net vars task bit ∷ exactly_contradictory_where net vars task bit ∷ []

-- Law: in a sound net the functions of the results give the exact findings.
pub record ExactResultsAreFindings : Type 0 where
  pub strong : (net : RawNet) (vars : ℕ) (task : Assertion) (bit : ℕ → ℕ → Function) →
      IsSoundFor net vars task → AreExactBits net vars task bit →
      Tells vars (exactly_strong_where net vars task bit) (IsExactlyStrong net task)
  pub contradictory : (net : RawNet) (vars : ℕ) (task : Assertion) (bit : ℕ → ℕ → Function) →
      IsSoundFor net vars task → AreExactBits net vars task bit →
      Tells vars (exactly_contradictory_where net vars task bit) (IsExactlyContradictory net task)

-- Law: in a sound net an assertion has exactly one exact need.
pub record OneExactNeed : Type 0 where
  pub some : (net : RawNet) (vars : ℕ) (task : Assertion) → HasOneDriver net → IsSettled net →
      (need : ℕ) × IsExactNeed net vars task need
  pub same : (net : RawNet) (vars : ℕ) (task : Assertion) (one other : ℕ) →
      IsInRange net → HasOneDriver net → IsSettled net → IsOverNet net task →
      IsExactNeed net vars task one → IsExactNeed net vars task other → one ≡ other
