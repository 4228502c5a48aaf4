-- Meaning, and laws. How many steps the check of an assertion needs, and which functions it keeps:
-- this project's own choice.
use Rattle.std.specs.Prelude.{◌≡◌, ℕ, zero, suc, Bool, List, [], ◌∷◌, ◌++◌, ◌&&◌, length, All, IsTrue}
use Rattle.bool_expr.specs.Value.{value_of}
use Rattle.dd_nodes.specs.Functions.{node_count}
use Rattle.net_core.specs.declared.raw.RawNet.{RawNet}
use Rattle.net_core.specs.Run.{IsSettled}
use Rattle.ste_base.specs.Functions.{Function}
use Rattle.net_core.specs.Work.{SymbolicSet, set_at}
use Rattle.ste_model.specs.declared.task.Assertion.{Assertion}
use Rattle.ste_model.specs.declared.task.Quint.{Quint}
use Rattle.ste_model.specs.Asked.{depth}
use Rattle.ste_model.specs.Assignments.{Tells}
use Rattle.ste_model.specs.Expressions.{reads}
use Rattle.ste_model.specs.Found.{IsContradictory, IsStrong, IsTableOf, IsWeak}
use Rattle.ste_model.specs.Work.{contradictory_where, over_times, strong_where, task_work, weak_where}

-- a possible table under each assignment of so many variables
abbrev pub IsWholeTable : RawNet → ℕ → Assertion → (ℕ → ℕ → SymbolicSet) → Type 0
IsWholeTable net vars task table =
    (bits : List Bool) → length bits ≡ vars →
    IsTableOf net task bits (λ t id. set_at bits (table t id))

-- the steps that an assertion needs: the number of nodes of its work functions
abbrev pub IsNeed : RawNet → ℕ → Assertion → ℕ → Type 0
IsNeed net vars task need =
    (table : ℕ → ℕ → SymbolicSet) × IsWholeTable net vars task table
    × (need ≡ node_count vars (task_work net task table))

-- the functions of every guard and every value
abbrev pub quint_functions : List Quint → List Function
quint_functions [] = []
quint_functions (quint ∷ quints) = value_of quint.guard ∷ value_of quint.value
    ∷ quint_functions quints

-- z and o of the first n nets
abbrev pub set_functions : (ℕ → SymbolicSet) → ℕ → List Function
set_functions sets zero = []
set_functions sets (suc n) = set_functions sets n ++ (sets n).zero ∷ (sets n).one ∷ []

-- The kept functions of an assertion: those of every guard and every value; z and o of every net
-- after its cuts at each time below the depth; and the sets of the strong, the weak and the
-- contradictory assignments.
abbrev pub kept_functions : RawNet → Assertion → (ℕ → ℕ → SymbolicSet) → List Function
kept_functions net task table =
    quint_functions task.ant ++ (quint_functions task.con
    ++ (over_times (λ t. set_functions (table t) net.nets) (depth task)
    ++ strong_where net task table ∷ weak_where net task table ∷ contradictory_where net task table
    ∷ []))

-- the variables of every guard and value are below this number
abbrev pub ReadBelow : ℕ → List Quint → Type 0
ReadBelow vars quints =
    All (λ quint. IsTrue (reads vars quint.guard && reads vars quint.value)) quints

-- Law: in a net without loops an assertion has exactly one need.
pub record OneNeed : Type 0 where
  pub some : (net : RawNet) (vars : ℕ) (task : Assertion) → IsSettled net →
      (need : ℕ) × IsNeed net vars task need
  pub same : (net : RawNet) (vars : ℕ) (task : Assertion) (one other : ℕ) → IsSettled net →
      IsNeed net vars task one → IsNeed net vars task other → one ≡ other

-- Law: in a net without loops the functions of the results give the findings.
pub record ResultsAreFindings : Type 0 where
  pub contradictory : (net : RawNet) (vars : ℕ) (task : Assertion) (table : ℕ → ℕ → SymbolicSet) →
      IsSettled net →
      IsWholeTable net vars task table →
      Tells vars (contradictory_where net task table) (IsContradictory net task)
  pub strong : (net : RawNet) (vars : ℕ) (task : Assertion) (table : ℕ → ℕ → SymbolicSet) →
      IsSettled net →
      IsWholeTable net vars task table →
      Tells vars (strong_where net task table) (IsStrong net task)
  pub weak : (net : RawNet) (vars : ℕ) (task : Assertion) (table : ℕ → ℕ → SymbolicSet) →
      IsSettled net →
      IsWholeTable net vars task table → Tells vars (weak_where net task table) (IsWeak net task)
