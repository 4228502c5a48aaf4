-- Meaning. What a table says of vertices, and what an edge gives, by references.
use Rattle.std.specs.Prelude.{◌≡◌, ◌<◌, ℕ, suc, List, All, ◌++◌, length, get_or}
use Rattle.std.specs.List.{AllZip, flat_map}
use Rattle.ste_base.specs.Functions.{Function}
use Rattle.dd_nodes.specs.Stores.{Store, IsRef, Means}
use Rattle.net_core.specs.declared.raw.RawNet.{RawNet}
use Rattle.net_core.specs.Work.{SymbolicSet}
use Rattle.dual_rail.specs.Rail.{AreRails, AreRefs}
use Rattle.sym_step.specs.Step.{HaveSets}
use Rattle.sym_step.specs.Frame.{nets_of}
use Rattle.ste_model.specs.declared.task.Edge.{Edge}
use Rattle.ste_model.specs.declared.task.Graph.{Graph}
use Rattle.ste_model.specs.Edges.{IsGraph}
use Rattle.ste_model.specs.GraphNeed.{BindsReadBelow}
use Rattle.ste_model.specs.GraphTable.{enough}
use Rattle.ste_model.specs.GraphWork.{SymbolicState, binds_work, feasible_where, given_by, round_work}
use Rattle.ste_model.specs.Work.{over_times}
use Rattle.gste_engine.specs.declared.edge.EdgeFound.{EdgeFound}
use Rattle.gste_engine.specs.declared.state.State.{State}

-- the references have the functions of the state
pub record IsState (t : Store) (state : SymbolicState) (r : State) : Type 0 where
  pub reached : Means t state.reached r.reached
  pub latches : AllZip (AreRails t) state.latches r.latches

-- each reference is a constant, or held, and there is a set for each latch
pub record AreStateRefs (t : Store) (net : RawNet) (r : State) : Type 0 where
  pub long : length r.latches ≡ length net.latches
  pub reached : IsRef t r.reached
  pub latches : All (AreRefs t) r.latches

-- What an edge gives, where this is the state of its source, and these are the sets of its time
-- step: those of all nets, in its frame, where it is feasible, and what it gives to its target.
pub record IsEdgeFound (net : RawNet) (source : SymbolicState) (sets : ℕ → SymbolicSet) (t : Store)
    (r : EdgeFound) : Type 0 where
  pub long : length (nets_of r.frame) ≡ net.nets
  pub nets : HaveSets net sets t (nets_of r.frame)
  pub feasible : Means t (feasible_where net source sets) r.feasible
  pub next : AllZip (AreRails t) (given_by net source sets).latches r.next

-- the references have the functions of a table of so many vertices, vertex by vertex
pub record HasStates (table : ℕ → SymbolicState) (vertices : ℕ) (t : Store)
    (r : List State) : Type 0 where
  pub long : length r ≡ vertices
  pub each : (vertex : ℕ) (d : State) → vertex < length r →
      IsState t (table vertex) (get_or r vertex d)

-- an edge begins at one of so many vertices, its antecedent and its weakenings name nets of the
-- net, and its antecedent reads variables below this number
pub record IsEdgeOver (net : RawNet) (vars vertices : ℕ) (edge : Edge) : Type 0 where
  pub start : edge.from < vertices
  pub nets : All (λ bind. bind.node.0 < net.nets) edge.ant
  pub weak : All (λ node. node.0 < net.nets) edge.weak
  pub reads : BindsReadBelow vars edge.ant

abbrev pub AreEdgesOver : RawNet → ℕ → ℕ → List Edge → Type 0
AreEdgesOver net vars vertices edges = All (IsEdgeOver net vars vertices) edges

-- a graph is sound, and its edges are so
pub record IsGraphOver (net : RawNet) (vars : ℕ) (graph : Graph) : Type 0 where
  pub sound : IsGraph graph
  pub edges : AreEdgesOver net vars (length graph.vertices) graph.edges

-- the functions for every guard and value of an antecedent
abbrev pub antecedents_work : Graph → List Function
antecedents_work graph = flat_map (λ (edge : Edge). binds_work edge.ant) graph.edges

-- What the rounds have to build: the part of the work functions of a graph that is rounds, and the
-- guards and values of the antecedents.
abbrev pub rounds_work : RawNet → Graph → (ℕ → ℕ → SymbolicState) → (ℕ → Edge → ℕ → SymbolicSet) →
    List Function
rounds_work net graph tables sets =
    antecedents_work graph ++ over_times (λ n. round_work net graph (tables n) (sets n))
    (suc (enough net graph))

-- the consequents of a graph name nets of the net, and read variables below this number
abbrev pub AreConsequentsOver : RawNet → ℕ → Graph → Type 0
AreConsequentsOver net vars graph =
    All (λ edge. All (λ bind. bind.node.0 < net.nets) edge.con ×
    BindsReadBelow vars edge.con) graph.edges
