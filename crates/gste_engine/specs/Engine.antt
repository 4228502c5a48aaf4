-- Meaning. What the engine's answers say of its steps and of its store.
use Rattle.std.specs.Prelude.{◌≡◌, ◌<◌, ◌+◌, ℕ, length}
use Rattle.dd_nodes.specs.declared.node.Ref.{Ref}
use Rattle.ste_base.specs.Functions.{Function}
use Rattle.dd_nodes.specs.Functions.{IsCofactorOf}
use Rattle.dd_nodes.specs.Stores.{Store, Means}
use Rattle.net_core.specs.declared.raw.RawNet.{RawNet}
use Rattle.net_core.specs.Work.{SymbolicSet}
use Rattle.ste_model.specs.declared.task.Edge.{Edge}
use Rattle.ste_model.specs.declared.task.Graph.{Graph}
use Rattle.ste_model.specs.GraphNeed.{AreWholeRounds, IsGraphNeed, graph_kept_functions}
use Rattle.ste_model.specs.GraphTable.{enough}
use Rattle.ste_model.specs.GraphWork.{SymbolicState}

-- from the store s to t all steps were spent, and fewer were left in s than the graph needs
pub record IsGraphBudget (net : RawNet) (graph : Graph) (s t : Store) : Type 0 where
  pub spent : length t.made ≡ t.limit
  pub few : (need : ℕ) → IsGraphNeed net s.vars graph need → s.limit < length s.made + need

-- each node of the kept functions has a reference
abbrev pub IsGraphKept : RawNet → Graph → Store → Type 0
IsGraphKept net graph t =
    (tables : ℕ → ℕ → SymbolicState) (sets : ℕ → Edge → ℕ → SymbolicSet) →
    AreWholeRounds net t.vars graph tables sets →
    (f : Function) →
    IsCofactorOf t.vars (graph_kept_functions net t.vars graph (tables (enough net graph))
    (sets (enough net graph))) f →
    (r : Ref) × Means t f r
