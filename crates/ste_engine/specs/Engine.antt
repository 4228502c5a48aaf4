-- Meaning. What the engine's answers say of its steps and of its store.
use Rattle.std.specs.Prelude.{◌≡◌, ◌<◌, ◌+◌, ℕ, length}
use Rattle.dd_nodes.specs.declared.node.Ref.{Ref}
use Rattle.ste_base.specs.Functions.{Function}
use Rattle.dd_nodes.specs.Functions.{IsCofactorOf}
use Rattle.dd_nodes.specs.Stores.{Store, Means}
use Rattle.net_core.specs.declared.raw.RawNet.{RawNet}
use Rattle.net_core.specs.Work.{SymbolicSet}
use Rattle.ste_model.specs.declared.task.Assertion.{Assertion}
use Rattle.ste_model.specs.Need.{IsNeed, IsWholeTable, kept_functions}

-- from the store s to t all steps were spent, and fewer were left in s than the assertion needs
pub record IsBudget (net : RawNet) (task : Assertion) (s t : Store) : Type 0 where
  pub spent : length t.made ≡ t.limit
  pub few : (need : ℕ) → IsNeed net s.vars task need → s.limit < length s.made + need

-- each node of the kept functions has a reference
abbrev pub IsKept : RawNet → Assertion → Store → Type 0
IsKept net task t =
    (table : ℕ → ℕ → SymbolicSet) → IsWholeTable net t.vars task table →
    (f : Function) → IsCofactorOf t.vars (kept_functions net task table) f → (r : Ref) × Means t f r
