-- Laws. Functions of the first variables alone have as many nodes over more variables. So the exact
-- need of an assertion, which is counted over its own variables and choices, is the same in a store
-- that has more.
use Rattle.std.specs.Prelude.{◌≡◌, ◌≤◌, ◌+◌, ℕ, Bool, List, All, length, take}
use Rattle.dd_nodes.specs.Functions.{node_count}
use Rattle.net_core.specs.declared.raw.RawNet.{RawNet}
use Rattle.ste_base.specs.Functions.{Function}
use Rattle.ste_model.specs.declared.task.Assertion.{Assertion}
use Rattle.exact_model.specs.Choices.{choices}
use Rattle.exact_model.specs.Exact.{IsSoundFor}
use Rattle.exact_model.specs.ExactNeed.{IsExactNeed}
use Rattle.exact_model.specs.ExactWork.{AreExactBits, exact_work}

-- the function is one of the first n variables, wherever it has as many or more
abbrev pub IsOfFirst : ℕ → Function → Type 0
IsOfFirst n f = (bits : List Bool) → n ≤ length bits → f bits ≡ f (take n bits)

-- Law: functions of the first n variables have as many nodes over n variables as over more.
abbrev pub WiderHasAsManyNodes : Type 0
WiderHasAsManyNodes =
    (n more : ℕ) (fs : List Function) → All (IsOfFirst n) fs →
    node_count (n + more) fs ≡ node_count n fs

-- the bits of runs as functions of more variables, which read the first n alone
abbrev pub bits_over_more : ℕ → (ℕ → ℕ → Function) → ℕ → ℕ → Function
bits_over_more n bit t id bits = bit t id (take n bits)

-- Law: over more variables than an assertion has with its choices, its exact work functions have as
-- many nodes as it needs steps.
abbrev pub WiderNeedsAsMany : Type 0
WiderNeedsAsMany =
    (net : RawNet) (vars : ℕ) (task : Assertion) (bit : ℕ → ℕ → Function) (need more : ℕ) →
    IsSoundFor net vars task → AreExactBits net vars task bit → IsExactNeed net vars task need →
    node_count (vars + length (choices net task) + more)
    (exact_work net vars task (bits_over_more (vars + length (choices net task)) bit)) ≡ need
