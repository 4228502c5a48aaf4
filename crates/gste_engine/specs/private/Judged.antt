-- For private functions. The table of the round that settles, and what is found on it, by
-- references.
use Rattle.std.specs.Prelude.{ℕ, Bool, List, Contains, Option, length}
use Rattle.dd_nodes.specs.declared.node.Ref.{Ref}
use Rattle.ste_base.specs.Functions.{Function}
use Rattle.dd_nodes.specs.Stores.{Store, Means, function}
use Rattle.net_core.specs.declared.raw.RawNet.{RawNet}
use Rattle.net_core.specs.Work.{SymbolicSet}
use Rattle.ste_base.specs.declared.id.NodeId.{NodeId}
use Rattle.engine_parts.specs.declared.failing.Failure.{Failure}
use Rattle.engine_parts.specs.declared.failing.Failure.TheVariants as how
use Rattle.engine_parts.specs.declared.results.Results.{Results}
use Rattle.engine_parts.specs.Reporting.{AreResultRefs}
use Rattle.ste_model.specs.declared.run.Run.{Run}
use Rattle.ste_model.specs.declared.task.Edge.{Edge}
use Rattle.ste_model.specs.declared.task.Graph.{Graph}
use Rattle.ste_model.specs.declared.verdict.Verdict.{Verdict}
use Rattle.ste_model.specs.Assignments.{Tells}
use Rattle.ste_model.specs.GraphFound.{IsGraphContradictory, IsGraphStrong, IsGraphWeak}
use Rattle.ste_model.specs.GraphNeed.{AreWholeRounds, graph_kept_functions}
use Rattle.ste_model.specs.GraphReport.{GraphPrints, GraphShows}
use Rattle.ste_model.specs.GraphTable.{enough}
use Rattle.ste_model.specs.GraphWork.{SymbolicState, graph_contradictory_where, graph_strong_where, graph_weak_where}
use Rattle.gste_engine.specs.declared.state.State.{State}
use Rattle.gste_engine.specs.Tables.{HasStates}

-- The references are those of this table, and of the results on it, where these are the sets of
-- each edge; and each kept function has a reference.
pub record AreGraphResults (net : RawNet) (graph : Graph) (table : ℕ → SymbolicState)
    (sets : Edge → ℕ → SymbolicSet) (t : Store) (vertices : List State) (r : Results) : Type 0 where
  pub states : HasStates table (length graph.vertices) t vertices
  pub strong : Means t (graph_strong_where net graph table sets) r.strong
  pub weak : Means t (graph_weak_where net graph table sets) r.weak
  pub contradictory : Means t (graph_contradictory_where net graph table sets) r.contradictory
  pub kept : (f : Function) → Contains (graph_kept_functions net t.vars graph table sets) f →
      (x : Ref) × Means t f x

-- the references are those of the table of the round that settles
pub record IsSettledTable (net : RawNet) (graph : Graph) (s : Store)
    (states : List State) : Type 0 where
  pub tables : ℕ → ℕ → SymbolicState
  pub sets : ℕ → Edge → ℕ → SymbolicSet
  pub whole : AreWholeRounds net s.vars graph tables sets
  pub has : HasStates (tables (enough net graph)) (length graph.vertices) s states

-- the references tell the strong, the weak and the contradictory assignments
pub record TellGraphFindings (s : Store) (net : RawNet) (graph : Graph) (r : Results) : Type 0 where
  pub refs : AreResultRefs s r
  pub strong : Tells s.vars (function s r.strong) (IsGraphStrong net graph)
  pub weak : Tells s.vars (function s r.weak) (IsGraphWeak net graph)
  pub contradictory : Tells s.vars (function s r.contradictory) (IsGraphContradictory net graph)

-- an assignment is so
abbrev pub IsGraphFoundBy : Failure → RawNet → Graph → List Bool → Type 0
IsGraphFoundBy how.Strong = IsGraphStrong
IsGraphFoundBy how.Weak = IsGraphWeak

-- what a failure shows, with this verdict
pub record IsGraphFailureOf (net : RawNet) (vars : ℕ) (graph : Graph) (verdict : Verdict)
    (least : Option (List Bool)) (path : List ℕ) (fails : Option (NodeId × ℕ))
    (told : Option Run) : Type 0 where
  pub shown : GraphShows net vars graph verdict least path fails
  pub run : GraphPrints net graph verdict least path told
