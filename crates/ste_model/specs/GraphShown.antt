-- Meaning, and laws. What a failure of an assertion graph shows under an assignment: the path, the
-- failing place, and the run that is printed. Source: this project's own choice.
use Rattle.std.specs.Prelude.{◌≡◌, ◌≢◌, ℕ, suc, ◌<◌, ◌≤◌, Bool, List, length, All, Some, slice_get}
use Rattle.std.specs.declared.cmp.Ordering.TheVariants.{Greater}
use Rattle.std.specs.Cmp.Lexicographic.{slice_cmp}
use Rattle.std.specs.Ordering.{nat_cmp}
use Rattle.net_core.specs.declared.bit_set.BitSet.{BitSet}
use Rattle.net_core.specs.declared.raw.RawNet.{RawNet}
use Rattle.net_core.specs.Run.{Cut, IsSettled, IsUndriven}
use Rattle.ste_model.specs.declared.task.Edge.{Edge}
use Rattle.ste_model.specs.declared.task.Graph.{Graph}
use Rattle.ste_model.specs.declared.task.Task.TheVariants.{Gste}
use Rattle.ste_model.specs.Edges.{AreNumbers, IsGraph, IsLastEdge, IsPathFrom, bind_cuts}
use Rattle.ste_model.specs.Found.{FailsStrongly, FailsWeakly}
use Rattle.ste_model.specs.GraphFound.{FailsOn, IsGraphFound}
use Rattle.ste_model.specs.GraphHolds.{MeetsAlong}
use Rattle.ste_model.specs.GraphTable.{IsFeasible, IsLeastClosed, VertexState}
use Rattle.ste_model.specs.Holds.{IsTaskRun}
use Rattle.ste_model.specs.Shown.{AsksOfNets, IsBindable, IsFilled, IsFirstBit}

-- ---- the path

-- a candidate: a path from vertex 0 along edges that are feasible under the least closed table, and
-- whose last edge has a consequent that fails so
pub record IsCandidate (Fails : (ℕ → BitSet) → Cut → Type 0) (net : RawNet) (graph : Graph)
    (bits : List Bool) (path : List Edge) : Type 0 where
  pub table : ℕ → VertexState
  pub is_table : IsLeastClosed net graph bits table
  pub is_path : IsPathFrom graph.edges 0 path
  pub feasible : All (λ edge. (sets : ℕ → BitSet) × IsFeasible net bits table edge sets) path
  pub edge : Edge
  pub last : IsLastEdge path edge
  pub fails : FailsOn Fails net bits table edge

-- the shown path, by the numbers of its edges: a candidate with the fewest edges, and among those
-- with the least list of numbers
pub record IsShownPath (Fails : (ℕ → BitSet) → Cut → Type 0) (net : RawNet) (graph : Graph)
    (bits : List Bool) (numbers : List ℕ) : Type 0 where
  pub path : List Edge
  pub are : AreNumbers graph numbers path
  pub candidate : IsCandidate Fails net graph bits path
  pub least : (others : List ℕ) (other : List Edge) → AreNumbers graph others other →
      IsCandidate Fails net graph bits other →
      (length numbers ≤ length others)
      × (length others ≡ length numbers → slice_cmp nat_cmp numbers others ≢ Greater)

-- ---- the place

-- the first cut in order that fails so, by its number
pub record IsFirstFailing (Fails : (ℕ → BitSet) → Cut → Type 0) (sets : ℕ → BitSet)
    (cuts : List Cut) (k : ℕ) : Type 0 where
  pub cut : Cut
  pub here : slice_get cuts k ≡ Some cut
  pub fails : Fails sets cut
  pub first : (j : ℕ) (other : Cut) → j < k → slice_get cuts j ≡ Some other → ¬ Fails sets other

-- the failing place of a path: the time of its last edge, which is the path's length without one,
-- and the number of the first consequent of that edge, in text order, that fails so
pub record IsPathPlace (Fails : (ℕ → BitSet) → Cut → Type 0) (net : RawNet) (graph : Graph)
    (bits : List Bool) (path : List Edge) (t k : ℕ) : Type 0 where
  pub table : ℕ → VertexState
  pub is_table : IsLeastClosed net graph bits table
  pub edge : Edge
  pub time : suc t ≡ length path
  pub last : slice_get path t ≡ Some edge
  pub sets : ℕ → BitSet
  pub feasible : IsFeasible net bits table edge sets
  pub first : IsFirstFailing Fails sets (bind_cuts edge.con bits) k

-- ---- the run

-- The printed run along a path under an assignment: a run of the path's length in which inputs,
-- free nets and first bits of latches are as the antecedents of the edges ask, and 0 where neither
-- they nor the reset fix them. All else follows.
pub record IsPrintedAlong (net : RawNet) (graph : Graph) (bits : List Bool) (path : List Edge)
    (run : ℕ → ℕ → Bool) : Type 0 where
  pub is_run : IsTaskRun net graph.reset (length path) run
  pub sources : (i : ℕ) (edge : Edge) (id : ℕ) → slice_get path i ≡ Some edge → id < net.nets →
      IsUndriven net id →
      IsFilled (bind_cuts edge.ant bits) id (run i id)
  pub starts : (edge : Edge) → slice_get path 0 ≡ Some edge →
      All (λ latch. IsFirstBit graph.reset latch (bind_cuts edge.ant bits) (run 0 latch.output.0))
      net.latches

-- ---- laws

-- some path, with its numbers, is a candidate
abbrev pub HasCandidate : ((ℕ → BitSet) → Cut → Type 0) → RawNet → Graph → List Bool → Type 0
HasCandidate Fails net graph bits =
    (numbers : List ℕ) × (path : List Edge) × AreNumbers graph numbers path
    × IsCandidate Fails net graph bits path

-- Law: what is found under an assignment has a candidate path.
pub record FoundHasCandidate : Type 0 where
  pub strong : (net : RawNet) (graph : Graph) (bits : List Bool) → IsSettled net → IsGraph graph →
      IsGraphFound FailsStrongly net graph bits → HasCandidate FailsStrongly net graph bits
  pub weak : (net : RawNet) (graph : Graph) (bits : List Bool) → IsSettled net → IsGraph graph →
      IsGraphFound FailsWeakly net graph bits → HasCandidate FailsWeakly net graph bits

-- Law: a printed run along a path meets the antecedents where they are bindable; a run that meets
-- the antecedents along a candidate path of a strong failure breaks the consequents.
pub record DueBreaksAlong : Type 0 where
  pub meets : (net : RawNet) (graph : Graph) (bits : List Bool) (path : List Edge)
      (run : ℕ → ℕ → Bool) →
      AsksOfNets net (Gste graph) → IsBindable net (Gste graph) → IsPathFrom graph.edges 0 path →
      IsPrintedAlong net graph bits path run → MeetsAlong (λ edge. edge.ant) bits path run
  pub breaks : (net : RawNet) (graph : Graph) (bits : List Bool) (path : List Edge)
      (run : ℕ → ℕ → Bool) →
      IsSettled net → IsCandidate FailsStrongly net graph bits path →
      IsTaskRun net graph.reset (length path) run →
      MeetsAlong (λ edge. edge.ant) bits path run → ¬ MeetsAlong (λ edge. edge.con) bits path run
