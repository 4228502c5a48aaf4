-- Conditions. A table of a graph as a list of states, one for each vertex.
use Rattle.std.specs.Prelude.{◌≡◌, ◌<◌, ◌||◌, ℕ, Bool, false, true, List, length, map, All, Option, None, Some, slice_get}
use Rattle.std.specs.List.{zip}
use Rattle.net_core.specs.declared.bit_set.BitSet.{BitSet}
use Rattle.net_core.specs.declared.raw.RawNet.{RawNet}
use Rattle.net_core.specs.Sets.{first_sets, neither}
use Rattle.ste_model.specs.declared.task.Edge.{Edge}
use Rattle.ste_model.specs.declared.task.Graph.{Graph}
use Rattle.ste_model.specs.declared.task.Task.TheVariants.{Gste}
use Rattle.ste_model.specs.Edges.{IsGraph}
use Rattle.ste_model.specs.GraphTable.{IsFeasible, VertexState}
use Rattle.ste_model.specs.Shown.{AsksOfNets}
use Rattle.plain_check.specs.declared.rounds.State.{State}
use Rattle.plain_check.specs.private.Sets.{set_at}

-- what a table says of a vertex that is not reached, and of vertex 0 at the start
abbrev pub unreached : RawNet → State
unreached net = record { reached = false; latches = map (λ latch. neither) net.latches }

abbrev pub start : RawNet → Bool → State
start net reset = record { reached = true; latches = first_sets net reset }

-- a state that is there; what stands behind the list is not reached
abbrev pub state_of : RawNet → Option State → VertexState
state_of net None = record { reached = false; latches = map (λ latch. neither) net.latches }
state_of net (Some state) = record { reached = state.reached; latches = state.latches }

-- the table that has these states
abbrev pub states_of : RawNet → List State → ℕ → VertexState
states_of net states vertex = state_of net (slice_get states vertex)

-- a state for each vertex, with a set for each latch
pub record AreStates (net : RawNet) (graph : Graph) (states : List State) : Type 0 where
  pub long : length states ≡ length graph.vertices
  pub latches : All (λ state. length state.latches ≡ length net.latches) states

-- the graph with these edges
abbrev pub with_edges : Graph → List Edge → Graph
with_edges graph edges = record graph { edges = edges }

-- the union, latch by latch
abbrev pub latch_unions : List BitSet → List BitSet → List BitSet
latch_unions one other =
    map (λ (at : BitSet × BitSet). record {
      zero = at.0.zero || at.1.zero;
      one = at.0.one || at.1.one;
    }) (zip one other)

-- an edge's possible sets where it is feasible under the table, and nothing where it is not
abbrev pub IsEdgeRow : RawNet → List Bool → (ℕ → VertexState) → Edge → Option (List BitSet) → Type 0
IsEdgeRow net bits table edge None = (sets : ℕ → BitSet) → ¬ IsFeasible net bits table edge sets
IsEdgeRow net bits table edge (Some row) =
    (length row ≡ net.nets) × IsFeasible net bits table edge (set_at row)

-- a graph over the net: its edges lie between its vertices, and it asks of nets that there are
pub record IsGraphOver (net : RawNet) (graph : Graph) : Type 0 where
  pub is_graph : IsGraph graph
  pub from : All (λ edge. edge.from < length graph.vertices) graph.edges
  pub asks : AsksOfNets net (Gste graph)
