-- Meaning. What the answers of an exact check say of its steps and of its store.
use Rattle.std.specs.Prelude.{◌≡◌, ◌<◌, ◌+◌, ℕ, length}
use Rattle.dd_nodes.specs.declared.node.Ref.{Ref}
use Rattle.ste_base.specs.Functions.{Function}
use Rattle.dd_nodes.specs.Functions.{IsCofactorOf}
use Rattle.dd_nodes.specs.Stores.{Store, Means}
use Rattle.net_core.specs.declared.raw.RawNet.{RawNet}
use Rattle.ste_model.specs.declared.task.Assertion.{Assertion}
use Rattle.exact_model.specs.Choices.{choices}
use Rattle.exact_model.specs.ExactNeed.{IsExactNeed, exact_kept}
use Rattle.exact_model.specs.ExactWork.{AreExactBits}
use Rattle.exact_model.specs.Wider.{bits_over_more}

-- from the store s to t all steps were spent, and fewer were left in s than the assertion needs
pub record IsExactBudget (net : RawNet) (vars : ℕ) (task : Assertion) (s t : Store) : Type 0 where
  pub spent : length t.made ≡ t.limit
  pub few : (need : ℕ) → IsExactNeed net vars task need → s.limit < length s.made + need

-- each node of the sets of the exactly strong and of the exactly contradictory assignments has a
-- reference
abbrev pub IsExactlyKept : RawNet → ℕ → Assertion → Store → Type 0
IsExactlyKept net vars task t =
    (bit : ℕ → ℕ → Function) → AreExactBits net vars task bit →
    (f : Function) → IsCofactorOf t.vars (exact_kept net vars task
    (bits_over_more (vars + length (choices net task)) bit)) f → (r : Ref) × Means t f r
