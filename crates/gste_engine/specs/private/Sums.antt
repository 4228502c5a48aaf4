-- For private functions. What comes to each vertex, one edge after another.
use Rattle.std.specs.Prelude.{◌≡◌, ◌==◌, ◌<◌, ℕ, zero, suc, Bool, List, [], ◌∷◌, ◌++◌, filter, get_or, if◌then◌else◌, length, map, replicate, set}
use Rattle.std.specs.List.{AllZip}
use Rattle.ste_base.specs.Functions.{Function}
use Rattle.dd_nodes.specs.Stores.{Store}
use Rattle.net_core.specs.declared.raw.RawNet.{RawNet}
use Rattle.net_core.specs.Work.{SymbolicSet, disjunction, never, union}
use Rattle.dual_rail.specs.declared.rails.Rails.{Rails}
use Rattle.engine_parts.specs.Latches.{first_rails}
use Rattle.ste_model.specs.declared.task.Edge.{Edge}
use Rattle.ste_model.specs.declared.task.Graph.{Graph}
use Rattle.ste_model.specs.GraphWork.{SymbolicState, sets_functions, start_state, vertex_work}
use Rattle.ste_model.specs.Work.{over_times}
use Rattle.gste_engine.specs.declared.state.State.{State}
use Rattle.gste_engine.specs.Tables.{IsState}

-- ---- by references

-- no bit under any assignment
abbrev pub no_rails : Rails
no_rails = record { can0 = record { 0 = 0 }; can1 = record { 0 = 0 } }

-- a vertex that is not reached under any assignment
abbrev pub unreached : RawNet → State
unreached net = record { reached = record { 0 = 0 }; latches = map (λ latch. no_rails) net.latches }

-- before any edge vertex 0 is reached with the first values, and nothing else is
abbrev pub first_state : RawNet → Bool → ℕ → State
first_state net reset zero =
    record { reached = record { 0 = 1 }; latches = map (first_rails reset) net.latches }
first_state net reset (suc vertex) = unreached net

abbrev pub first_table : RawNet → Bool → ℕ → List State
first_table net reset vertices =
    set (replicate vertices (unreached net)) 0 (first_state net reset 0)

-- ---- by functions

-- the unions, latch by latch
abbrev pub unions : List SymbolicSet → List SymbolicSet → List SymbolicSet
unions [] ws = ws
unions (v ∷ vs) [] = v ∷ vs
unions (v ∷ vs) (w ∷ ws) = union v w ∷ unions vs ws

-- a state with what one more edge gives
abbrev pub with_state : SymbolicState → SymbolicState → SymbolicState
with_state x y =
    record { reached = disjunction x.reached y.reached; latches = unions x.latches y.latches }

-- a state with each of these, in order
abbrev pub with_states : SymbolicState → List SymbolicState → SymbolicState
with_states x [] = x
with_states x (y ∷ ys) = with_states (with_state x y) ys

-- where it is reached, and z and o of each set
abbrev pub state_functions : SymbolicState → List Function
state_functions x = x.reached ∷ sets_functions x.latches

-- what is reached under no assignment
abbrev pub never_state : RawNet → SymbolicState
never_state net =
    record {
      reached = never;
      latches = map
          (λ latch. record { zero = never; one = never }) net.latches;
    }

-- what comes to a vertex by some edges, with the start at vertex 0
abbrev pub coming : RawNet → Bool → (Edge → SymbolicState) → List Edge → ℕ → List SymbolicState
coming net reset given edges vertex =
    (if vertex == 0 then start_state net reset ∷ [] else []) ++
    map given (filter (λ edge. edge.to == vertex) edges)

-- the sum of what comes to a vertex
abbrev pub summed_at : RawNet → Bool → (Edge → SymbolicState) → List Edge → ℕ → SymbolicState
summed_at net reset given edges vertex =
    with_states (never_state net) (coming net reset given edges vertex)

-- the functions for all sums
abbrev pub arrivals_work : RawNet → Graph → (Edge → SymbolicState) → List Function
arrivals_work net graph given =
    over_times (λ vertex. vertex_work net (coming net graph.reset given graph.edges vertex))
    (length graph.vertices)

-- ---- sums by references

-- what each edge gives has the functions of some states, edge by edge
pub record HaveFunctions (t : Store) (net : RawNet) (edges : List Edge)
    (givens : List State) : Type 0 where
  pub given : Edge → SymbolicState
  pub wide : (edge : Edge) → length (given edge).latches ≡ length net.latches
  pub are : AllZip (λ edge r. IsState t (given edge) r) edges givens

-- this is the sum of what comes to a vertex: for some functions of what the edges into it give, and
-- so for all
pub record IsSumOf (t : Store) (net : RawNet) (graph : Graph) (givens : List State) (vertex : ℕ)
    (r : State) : Type 0 where
  pub given : Edge → SymbolicState
  pub are : (k : ℕ) (d : Edge) (f : State) → k < length graph.edges →
      (get_or graph.edges k d).to ≡ vertex →
      IsState t (given (get_or graph.edges k d)) (get_or givens k f)
  pub sum : IsState t (summed_at net graph.reset given graph.edges vertex) r
