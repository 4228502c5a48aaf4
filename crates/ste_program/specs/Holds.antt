-- Meaning. When a task holds of a hierarchy, as it was written, and what breaks it: on two-valued
-- runs of its instances, with no flat net, no sets and no diagrams. Source: Seger and Bryant 1995;
-- for graphs Yang and Seger.
use Rattle.std.specs.Prelude.{◌≡◌, ℕ, ◌<◌, Bool, List, length}
use Rattle.blif_syntax.specs.declared.models.Model.{Model}
use Rattle.hierarchy.specs.Nets.{nets}
use Rattle.hierarchy.specs.Runs.{IsHierarchicalRun, StartsAsAsked}
use Rattle.flat_net.specs.Corresponds.{flat_bits}
use Rattle.ste_model.specs.declared.run.Run.{Run}
use Rattle.ste_model.specs.declared.task.Assertion.{Assertion}
use Rattle.ste_model.specs.declared.task.Edge.{Edge}
use Rattle.ste_model.specs.declared.task.Graph.{Graph}
use Rattle.ste_model.specs.declared.task.Task.{Task}
use Rattle.ste_model.specs.declared.task.Task.TheVariants.{Ste, Gste}
use Rattle.ste_model.specs.Asked.{cuts_at, depth}
use Rattle.ste_model.specs.Edges.{AreNumbers, IsPathFrom}
use Rattle.ste_model.specs.GraphHolds.{MeetsAlong}
use Rattle.ste_model.specs.Holds.{RunMeets}
use Rattle.ste_model.specs.Runs.{run_of}

-- a run of a task: a hierarchical run in which each latch has at time 0 a bit that it may start
-- with
pub record IsHierarchicalTaskRun (models : List Model) (reset : Bool) (n : ℕ)
    (run : List ℕ → List ℕ → ℕ → Bool) : Type 0 where
  pub is_run : IsHierarchicalRun models n run
  pub starts : 0 < n → StartsAsAsked models reset run

-- The assertion holds of the hierarchy: for every assignment, every run of the depth that meets the
-- antecedent meets the consequent. A net has the bit of the signal that it is made for.
abbrev pub HoldsOf : List Model → ℕ → Assertion → Type 0
HoldsOf models vars task =
    (bits : List Bool) → length bits ≡ vars → (run : List ℕ → List ℕ → ℕ → Bool) →
    IsHierarchicalTaskRun models task.reset (depth task) run →
    RunMeets (cuts_at task.ant bits) (flat_bits models run) →
    RunMeets (cuts_at task.con bits) (flat_bits models run)

-- A run as data breaks the assertion under an assignment: it has the bits of a hierarchical run of
-- the depth, which meets the antecedent and does not meet the consequent.
pub record BreaksIn (models : List Model) (task : Assertion) (bits : List Bool)
    (run : Run) : Type 0 where
  pub whole : List ℕ → List ℕ → ℕ → Bool
  pub is_run : IsHierarchicalTaskRun models task.reset (depth task) whole
  pub told : (t id : ℕ) → t < depth task → id < length (nets models) →
      run_of run t id ≡ flat_bits models whole t id
  pub meets : RunMeets (cuts_at task.ant bits) (flat_bits models whole)
  pub breaks : ¬ RunMeets (cuts_at task.con bits) (flat_bits models whole)

-- The graph holds of the hierarchy: for every assignment, every nonempty path from vertex 0 and
-- every run of the path's length, a run that meets each edge's antecedent at its place meets each
-- edge's consequent there.
abbrev pub GraphHoldsOf : List Model → ℕ → Graph → Type 0
GraphHoldsOf models vars graph =
    (bits : List Bool) → length bits ≡ vars → (path : List Edge) → 0 < length path →
    IsPathFrom graph.edges 0 path →
    (run : List ℕ → List ℕ → ℕ → Bool) →
    IsHierarchicalTaskRun models graph.reset (length path) run →
    MeetsAlong (λ edge. edge.ant) bits path (flat_bits models run) →
    MeetsAlong (λ edge. edge.con) bits path (flat_bits models run)

-- A run as data breaks the graph along the path with these numbers under an assignment: the path is
-- one from vertex 0, and the run has the bits of a hierarchical run of the path's length, which
-- meets each edge's antecedent at its place and does not meet each edge's consequent there.
pub record BreaksAlong (models : List Model) (graph : Graph) (bits : List Bool) (numbers : List ℕ)
    (run : Run) : Type 0 where
  pub path : List Edge
  pub are : AreNumbers graph numbers path
  pub is_path : IsPathFrom graph.edges 0 path
  pub whole : List ℕ → List ℕ → ℕ → Bool
  pub is_run : IsHierarchicalTaskRun models graph.reset (length path) whole
  pub told : (t id : ℕ) → t < length path → id < length (nets models) →
      run_of run t id ≡ flat_bits models whole t id
  pub meets : MeetsAlong (λ edge. edge.ant) bits path (flat_bits models whole)
  pub breaks : ¬ MeetsAlong (λ edge. edge.con) bits path (flat_bits models whole)

-- the task holds of the hierarchy
abbrev pub TaskHoldsOf : List Model → ℕ → Task → Type 0
TaskHoldsOf models vars (Ste task) = HoldsOf models vars task
TaskHoldsOf models vars (Gste graph) = GraphHoldsOf models vars graph

-- the run breaks the task under the assignment, a graph along the path with these numbers
abbrev pub BreaksTask : List Model → Task → List Bool → List ℕ → Run → Type 0
BreaksTask models (Ste task) bits numbers run = BreaksIn models task bits run
BreaksTask models (Gste graph) bits numbers run = BreaksAlong models graph bits numbers run
