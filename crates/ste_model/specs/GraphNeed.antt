-- Meaning, and laws. How many steps the check of an assertion graph needs, and which functions it
-- keeps: this project's own choice.
use Rattle.std.specs.Prelude.{◌≡◌, ℕ, Bool, not, List, [], ◌∷◌, ◌++◌, ◌&&◌, All, IsTrue, if◌then◌else◌, length}
use Rattle.std.specs.List.{flat_map}
use Rattle.bool_expr.specs.Value.{value_of}
use Rattle.dd_nodes.specs.Functions.{node_count}
use Rattle.net_core.specs.declared.raw.RawNet.{RawNet}
use Rattle.net_core.specs.Possible.{ArePossible}
use Rattle.net_core.specs.Run.{IsSettled}
use Rattle.ste_base.specs.Functions.{Function}
use Rattle.net_core.specs.Work.{SymbolicSet, never, set_at}
use Rattle.ste_model.specs.declared.task.Bind.{Bind}
use Rattle.ste_model.specs.declared.task.Edge.{Edge}
use Rattle.ste_model.specs.declared.task.Graph.{Graph}
use Rattle.ste_model.specs.Assignments.{Tells}
use Rattle.ste_model.specs.Cubes.{are_same_sets}
use Rattle.ste_model.specs.Edges.{IsGraph, asked_on}
use Rattle.ste_model.specs.Expressions.{reads}
use Rattle.ste_model.specs.GraphFound.{IsGraphContradictory, IsGraphStrong, IsGraphWeak}
use Rattle.ste_model.specs.GraphTable.{AreRounds, enough}
use Rattle.ste_model.specs.GraphWork.{SymbolicState, graph_contradictory_where, graph_strong_where, graph_weak_where, graph_work, state_at}
use Rattle.ste_model.specs.Need.{set_functions}

-- the tables of the rounds under each assignment of so many variables, and the possible sets of
-- each edge on each of them
pub record AreWholeRounds (net : RawNet) (vars : ℕ) (graph : Graph) (tables : ℕ → ℕ → SymbolicState)
    (sets : ℕ → Edge → ℕ → SymbolicSet) : Type 0 where
  pub rounds : (bits : List Bool) → length bits ≡ vars →
      AreRounds net graph bits (λ n vertex. state_at bits (tables n vertex))
  pub possible : (bits : List Bool) → length bits ≡ vars → (n : ℕ) →
      All (λ edge. ArePossible net (state_at bits (tables n edge.from)).latches (asked_on edge bits)
      (λ id. set_at bits (sets n edge id))) graph.edges

-- the steps that a graph needs: the number of nodes of its work functions
abbrev pub IsGraphNeed : RawNet → ℕ → Graph → ℕ → Type 0
IsGraphNeed net vars graph need =
    (tables : ℕ → ℕ → SymbolicState) × (sets : ℕ → Edge → ℕ → SymbolicSet)
    × AreWholeRounds net vars graph tables sets × (need
    ≡ node_count vars (graph_work net graph tables sets))

-- the functions of every guard and every value
abbrev pub bind_functions : List Bind → List Function
bind_functions [] = []
bind_functions (bind ∷ binds) = value_of bind.guard ∷ value_of bind.value ∷ bind_functions binds

-- whether the function is 1 under some assignment of so many variables
abbrev pub is_somewhere : ℕ → Function → Bool
is_somewhere vars f = not (are_same_sets vars f never)

-- z and o of every net on an edge whose source is reached under some assignment
abbrev pub edge_functions : RawNet → ℕ → SymbolicState → (ℕ → SymbolicSet) → List Function
edge_functions net vars source sets =
    if is_somewhere vars source.reached then set_functions sets net.nets else []

-- The kept functions of a graph: those of every guard and every value; on this table, with these
-- sets of each edge, z and o of every net after the cuts of each edge whose source is reached under
-- some assignment; and the sets of the strong, the weak and the contradictory assignments. The
-- table is that of the round that settles.
abbrev pub graph_kept_functions : RawNet → ℕ → Graph → (ℕ → SymbolicState) →
    (Edge → ℕ → SymbolicSet) → List Function
graph_kept_functions net vars graph table sets =
    flat_map (λ (edge : Edge). bind_functions edge.ant ++ bind_functions edge.con) graph.edges
    ++ (flat_map (λ (edge : Edge). edge_functions net vars (table edge.from) (sets edge))
    graph.edges
    ++ graph_strong_where net graph table sets ∷ graph_weak_where net graph table sets
    ∷ graph_contradictory_where net graph table sets ∷ [])

-- the variables of every guard and value are below this number
abbrev pub BindsReadBelow : ℕ → List Bind → Type 0
BindsReadBelow vars binds =
    All (λ bind. IsTrue (reads vars bind.guard && reads vars bind.value)) binds

abbrev pub GraphReadsBelow : ℕ → Graph → Type 0
GraphReadsBelow vars graph = All (λ edge. BindsReadBelow vars edge.ant
    × BindsReadBelow vars edge.con) graph.edges

-- Law: in a net without loops a graph has exactly one need.
pub record OneGraphNeed : Type 0 where
  pub some : (net : RawNet) (vars : ℕ) (graph : Graph) → IsSettled net →
      (need : ℕ) × IsGraphNeed net vars graph need
  pub same : (net : RawNet) (vars : ℕ) (graph : Graph) (one other : ℕ) → IsSettled net →
      IsGraphNeed net vars graph one → IsGraphNeed net vars graph other → one ≡ other

-- Law: in a net without loops the functions of the results give the findings.
pub record GraphResultsAreFindings : Type 0 where
  pub contradictory :
      (net : RawNet) (vars : ℕ) (graph : Graph) (tables : ℕ → ℕ → SymbolicState)
      (sets : ℕ → Edge → ℕ → SymbolicSet) →
      IsSettled net → IsGraph graph → AreWholeRounds net vars graph tables sets →
      Tells vars (graph_contradictory_where net graph (tables (enough net graph))
      (sets (enough net graph)))
      (IsGraphContradictory net graph)
  pub strong : (net : RawNet) (vars : ℕ) (graph : Graph) (tables : ℕ → ℕ → SymbolicState)
      (sets : ℕ → Edge → ℕ → SymbolicSet) →
      IsSettled net → IsGraph graph → AreWholeRounds net vars graph tables sets →
      Tells vars (graph_strong_where net graph (tables (enough net graph))
      (sets (enough net graph)))
      (IsGraphStrong net graph)
  pub weak : (net : RawNet) (vars : ℕ) (graph : Graph) (tables : ℕ → ℕ → SymbolicState)
      (sets : ℕ → Edge → ℕ → SymbolicSet) →
      IsSettled net → IsGraph graph → AreWholeRounds net vars graph tables sets →
      Tells vars (graph_weak_where net graph (tables (enough net graph)) (sets (enough net graph)))
      (IsGraphWeak net graph)
