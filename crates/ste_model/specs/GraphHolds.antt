-- Meaning. When an assertion graph holds: on two-valued runs, with no sets and no diagrams. Source:
-- Yang and Seger, strong satisfaction.
use Rattle.std.specs.Prelude.{◌≡◌, ℕ, ◌<◌, Bool, List, length, Some, slice_get}
use Rattle.net_core.specs.declared.raw.RawNet.{RawNet}
use Rattle.net_core.specs.Run.{Meets}
use Rattle.ste_model.specs.declared.task.Bind.{Bind}
use Rattle.ste_model.specs.declared.task.Edge.{Edge}
use Rattle.ste_model.specs.declared.task.Graph.{Graph}
use Rattle.ste_model.specs.Edges.{IsPathFrom, bind_cuts}
use Rattle.ste_model.specs.Holds.{IsTaskRun}

-- the run meets at time i these bindings of the i-th edge of the path, for each i
abbrev pub MeetsAlong : (Edge → List Bind) → List Bool → List Edge → (ℕ → ℕ → Bool) → Type 0
MeetsAlong binds bits path run =
    (i : ℕ) (edge : Edge) → slice_get path i ≡ Some edge →
    Meets (bind_cuts (binds edge) bits) (run i)

-- The graph holds: for every assignment, every nonempty path from vertex 0 and every run of the
-- path's length, a run that meets each edge's antecedent at its place meets each edge's consequent
-- there.
abbrev pub GraphHolds : RawNet → ℕ → Graph → Type 0
GraphHolds net vars graph =
    (bits : List Bool) → length bits ≡ vars → (path : List Edge) → 0 < length path →
    IsPathFrom graph.edges 0 path →
    (run : ℕ → ℕ → Bool) → IsTaskRun net graph.reset (length path) run →
    MeetsAlong (λ edge. edge.ant) bits path run → MeetsAlong (λ edge. edge.con) bits path run
