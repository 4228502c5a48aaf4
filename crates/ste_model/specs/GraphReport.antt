-- Meaning, and a law. The report of an assertion graph: its verdict, under which assignments it is
-- so, and what a failure shows.
-- Source: this project's own choice.
use Rattle.std.specs.Prelude.{◌≡◌, ◌≢◌, ◌⊎◌, ℕ, Bool, List, [], length, Option, None, Some}
use Rattle.ste_base.specs.declared.id.NodeId.{NodeId}
use Rattle.net_core.specs.declared.bit_set.BitSet.{BitSet}
use Rattle.net_core.specs.declared.raw.RawNet.{RawNet}
use Rattle.net_core.specs.Flat.{IsInRange}
use Rattle.net_core.specs.Run.{Cut, IsSettled}
use Rattle.ste_model.specs.declared.report.Report.{Report}
use Rattle.ste_model.specs.declared.run.Run.{Run}
use Rattle.ste_model.specs.declared.task.Edge.{Edge}
use Rattle.ste_model.specs.declared.task.Graph.{Graph}
use Rattle.ste_model.specs.declared.task.Task.TheVariants.{Gste}
use Rattle.ste_model.specs.declared.verdict.Verdict.{Verdict}
use Rattle.ste_model.specs.declared.verdict.Verdict.TheVariants.{Strong, Weak}
use Rattle.ste_model.specs.Edges.{AreNumbers}
use Rattle.ste_model.specs.Found.{FailsStrongly, FailsWeakly}
use Rattle.ste_model.specs.GraphFound.{IsGraphContradictory, IsGraphStrong, IsGraphVerdict, IsGraphWeak}
use Rattle.ste_model.specs.GraphShown.{IsPathPlace, IsPrintedAlong, IsShownPath}
use Rattle.ste_model.specs.Least.{IsLeast}
use Rattle.ste_model.specs.Report.{AreCubes}
use Rattle.ste_model.specs.Runs.{HasRows, run_of}
use Rattle.ste_model.specs.Shown.{IsBindable}

-- the failing place of the path with these numbers: the net of the first consequent of its last
-- edge that fails so, and that edge's time step
pub record IsGraphPlace (Fails : (ℕ → BitSet) → Cut → Type 0) (net : RawNet) (graph : Graph)
    (bits : List Bool) (numbers : List ℕ) (place : NodeId × ℕ) : Type 0 where
  pub path : List Edge
  pub are : AreNumbers graph numbers path
  pub number : ℕ
  pub is_place : IsPathPlace Fails net graph bits path place.1 number
  pub node : place.0.0 ≡ is_place.first.cut.node

-- what a failure shows, from its finding and how a consequent fails: the least assignment with the
-- finding, and under it the shown path, by the numbers of its edges, and the failing place on it
pub record IsGraphShown (Finds : List Bool → Type 0) (Fails : (ℕ → BitSet) → Cut → Type 0)
    (net : RawNet) (vars : ℕ) (graph : Graph) (least : Option (List Bool)) (numbers : List ℕ)
    (fails : Option (NodeId × ℕ)) : Type 0 where
  pub bits : List Bool
  pub least_is : least ≡ Some bits
  pub is_least : IsLeast vars Finds bits
  pub is_path : IsShownPath Fails net graph bits numbers
  pub place : NodeId × ℕ
  pub fails_is : fails ≡ Some place
  pub is_place : IsGraphPlace Fails net graph bits numbers place

-- a run is due: for a strong failure whose antecedent is bindable
abbrev pub IsGraphDue : RawNet → Graph → Verdict → Type 0
IsGraphDue net graph verdict = (verdict ≡ Strong) × IsBindable net (Gste graph)

-- the reported run is the printed run along the path with these numbers under the least
-- assignment, with a row for each net and a bit for each edge of the path
pub record IsPrintedOnPath (net : RawNet) (graph : Graph) (least : Option (List Bool))
    (numbers : List ℕ) (run : Option Run) : Type 0 where
  pub bits : List Bool
  pub least_is : least ≡ Some bits
  pub told : Run
  pub run_is : run ≡ Some told
  pub path : List Edge
  pub are : AreNumbers graph numbers path
  pub rows : HasRows net.nets (length path) told
  pub printed : IsPrintedAlong net graph bits path (run_of told)

-- what is reported with a verdict: for a strong or weak failure what it shows, and otherwise
-- nothing
abbrev pub GraphShows : RawNet → ℕ → Graph → Verdict → Option (List Bool) → List ℕ →
    Option (NodeId × ℕ) → Type 0
GraphShows net vars graph verdict least numbers fails =
    ((verdict ≡ Strong) × IsGraphShown (IsGraphStrong net graph) FailsStrongly net vars graph least
    numbers fails)
    ⊎ (((verdict ≡ Weak) × IsGraphShown (IsGraphWeak net graph) FailsWeakly net vars graph least
    numbers fails)
    ⊎ ((verdict ≢ Strong) × (verdict ≢ Weak) × (least ≡ None) × (numbers ≡ []) × (fails ≡ None)))

-- where a run is due the printed run is reported, and otherwise none
abbrev pub GraphPrints : RawNet → Graph → Verdict → Option (List Bool) → List ℕ → Option Run →
    Type 0
GraphPrints net graph verdict least numbers run =
    (IsGraphDue net graph verdict × IsPrintedOnPath net graph least numbers run)
    ⊎ ((¬ IsGraphDue net graph verdict) × (run ≡ None))

-- The report of an assertion graph over so many variables, with at most so many cubes in each of
-- its lists: its verdict; the strong, the weak and the contradictory assignments; for a strong or
-- weak failure the least assignment that is so, the shown path and the failing place; and where a
-- run is due the printed run.
pub record IsGraphReportOf (net : RawNet) (vars cubes : ℕ) (graph : Graph) (report : Report) :
    Type 0 where
  pub named : report.name ≡ graph.name
  pub judged : IsGraphVerdict net vars graph report.verdict
  pub strong : AreCubes cubes vars (IsGraphStrong net graph) report.guards.strong
  pub weak : AreCubes cubes vars (IsGraphWeak net graph) report.guards.weak
  pub contradictory :
      AreCubes cubes vars (IsGraphContradictory net graph) report.guards.contradictory
  pub shown : GraphShows net vars graph report.verdict report.least report.path report.fails
  pub run : GraphPrints net graph report.verdict report.least report.path report.run

-- Law: in a net whose numbers are in range, without loops, an assertion graph has one report at
-- most.
abbrev pub OneGraphReportOf : Type 0
OneGraphReportOf =
    (net : RawNet) → IsInRange net → IsSettled net →
    (vars cubes : ℕ) (graph : Graph) (one other : Report) →
    IsGraphReportOf net vars cubes graph one → IsGraphReportOf net vars cubes graph other →
    one ≡ other
