-- From what calls leave to what the engine answers where steps are out.
use Rattle.std.proofs.Common.{◌≢◌, ℕ, ◌<◌, ◌+◌, length, sym, subst, All}
use Rattle.std.specs.Prelude.{IsSome}
use Rattle.std.specs.List.{AllPairs}
use Rattle.dd_nodes.specs.Spending.{Spends}
use Rattle.dd_nodes.specs.Stores.{Store}
use Rattle.dd_nodes.proofs.Spending.{too_few}
use Rattle.dd_nodes.proofs.Stores.{IsGood}
use Rattle.net_core.specs.declared.raw.RawNet.{RawNet}
use Rattle.net_core.specs.Work.{SymbolicSet}
use Rattle.ste_model.specs.declared.task.Assertion.{Assertion}
use Rattle.ste_model.specs.Need.{IsNeed, IsWholeTable}
use Rattle.ste_model.specs.Work.{task_work}

-- where steps are out, fewer were left than the assertion needs
pub short : (net : RawNet) (task : Assertion) (s t : Store) → IsGood t → AllPairs (λ a b. a ≢ b) t.made → All (λ r. IsSome (t.held r)) t.made
    → ((table : ℕ → ℕ → SymbolicSet) → IsWholeTable net s.vars task table → Spends (task_work net task table) s t (Unit {0}))
    → (need : ℕ) → IsNeed net s.vars task need → s.limit < length s.made + need
short net task s t d apart held left need (table, whole, is) =
    subst (λ n. s.limit < length s.made + n) (sym is) (too_few (task_work net task table) s t (Unit {0}) d apart held (left table whole) tt)
