-- Law. Hops that say what is known of the edges of a graph under an assignment: the path along
-- them is the one that a failure shows.
use Rattle.std.specs.Prelude.{◌↔◌, ◌≡◌, ℕ, Bool, List, IsTrue, None, Some}
use Rattle.std.specs.List.{AllZip}
use Rattle.graph_path.specs.declared.hop.Hop.{Hop}
use Rattle.graph_path.specs.Routes.{IsPathOf}
use Rattle.net_core.specs.declared.bit_set.BitSet.{BitSet}
use Rattle.net_core.specs.declared.raw.RawNet.{RawNet}
use Rattle.net_core.specs.Run.{Cut}
use Rattle.ste_model.specs.declared.task.Edge.{Edge}
use Rattle.ste_model.specs.declared.task.Graph.{Graph}
use Rattle.ste_model.specs.Found.{FailsStrongly, FailsWeakly}
use Rattle.ste_model.specs.GraphFound.{FailsOn}
use Rattle.ste_model.specs.GraphShown.{HasCandidate, IsShownPath}
use Rattle.ste_model.specs.GraphTable.{IsFeasible, IsLeastClosed, VertexState}

-- the hop has the edge's ends, and says whether the edge is feasible under the table, and, where
-- it is, whether a consequent of it fails so
pub record IsEdgeHop (Fails : (ℕ → BitSet) → Cut → Type 0) (net : RawNet) (bits : List Bool)
    (table : ℕ → VertexState) (edge : Edge) (hop : Hop) : Type 0 where
  pub from : hop.from ≡ edge.from
  pub to : hop.to ≡ edge.to
  pub feasible : IsTrue hop.feasible ↔ ((sets : ℕ → BitSet) × IsFeasible net bits table edge sets)
  pub fails : IsTrue hop.feasible → (IsTrue hop.fails ↔ FailsOn Fails net bits table edge)

-- a hop for each edge, by number
abbrev pub AreEdgeHops : ((ℕ → BitSet) → Cut → Type 0) → RawNet → List Bool → (ℕ → VertexState) →
    List Edge → List Hop → Type 0
AreEdgeHops Fails net bits table edges hops = AllZip (IsEdgeHop Fails net bits table) edges hops

-- For one way to fail, and hops of the edges under the least closed table: the path along the hops
-- is the shown one, and where there is none there is no candidate.
pub record PathIsShown (Fails : (ℕ → BitSet) → Cut → Type 0) : Type 0 where
  pub shown : (net : RawNet) (graph : Graph) (bits : List Bool) (table : ℕ → VertexState)
      (hops : List Hop) →
      IsLeastClosed net graph bits table → AreEdgeHops Fails net bits table graph.edges hops →
      (numbers : List ℕ) → IsPathOf hops (Some numbers) → IsShownPath Fails net graph bits numbers
  pub none : (net : RawNet) (graph : Graph) (bits : List Bool) (table : ℕ → VertexState)
      (hops : List Hop) →
      IsLeastClosed net graph bits table → AreEdgeHops Fails net bits table graph.edges hops →
      IsPathOf hops None → ¬ HasCandidate Fails net graph bits

-- Law: so it is for strong and for weak failures.
pub record PathsAreShown : Type 0 where
  pub strong : PathIsShown FailsStrongly
  pub weak : PathIsShown FailsWeakly
