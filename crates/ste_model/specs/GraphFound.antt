-- Meaning, and laws. What is found of an assertion graph under an assignment, and its verdict over
-- all assignments. Source: Yang and Seger; the names of the verdicts and their order are choices of
-- this project.
use Rattle.std.specs.Prelude.{◌≡◌, ℕ, Bool, List, All, Any, ◌⊎◌}
use Rattle.net_core.specs.declared.bit_set.BitSet.{BitSet}
use Rattle.net_core.specs.declared.raw.RawNet.{RawNet}
use Rattle.net_core.specs.Run.{Cut, IsSettled}
use Rattle.ste_model.specs.declared.task.Edge.{Edge}
use Rattle.ste_model.specs.declared.task.Graph.{Graph}
use Rattle.ste_model.specs.declared.verdict.Verdict.{Verdict}
use Rattle.ste_model.specs.declared.verdict.Verdict.TheVariants.{Pass, Vacuous}
use Rattle.ste_model.specs.Assignments.{Tells}
use Rattle.ste_model.specs.Edges.{IsGraph, bind_cuts}
use Rattle.ste_model.specs.Found.{FailsStrongly, FailsWeakly, IsVerdict}
use Rattle.ste_model.specs.GraphHolds.{GraphHolds}
use Rattle.ste_model.specs.GraphTable.{IsFeasible, IsLeastClosed, VertexState}

-- the edge is feasible under the table, and some consequent of it fails so in its possible sets
abbrev pub FailsOn : ((ℕ → BitSet) → Cut → Type 0) → RawNet → List Bool → (ℕ → VertexState) → Edge →
    Type 0
FailsOn Fails net bits table edge =
    (sets : ℕ → BitSet) × IsFeasible net bits table edge sets
    × Any (Fails sets) (bind_cuts edge.con bits)

-- under the least closed table some edge has a consequent that fails so
abbrev pub IsGraphFound : ((ℕ → BitSet) → Cut → Type 0) → RawNet → Graph → List Bool → Type 0
IsGraphFound Fails net graph bits =
    (table : ℕ → VertexState) × IsLeastClosed net graph bits table
    × Any (FailsOn Fails net bits table) graph.edges

-- a strong assignment: some consequent is found strong
abbrev pub IsGraphStrong : RawNet → Graph → List Bool → Type 0
IsGraphStrong net graph bits = IsGraphFound FailsStrongly net graph bits

-- a weak assignment: it is not strong, and some consequent is found weak
abbrev pub IsGraphWeak : RawNet → Graph → List Bool → Type 0
IsGraphWeak net graph bits = (¬ IsGraphStrong net graph bits)
    × IsGraphFound FailsWeakly net graph bits

-- a contradictory assignment: under the least closed table no edge is feasible
abbrev pub IsGraphContradictory : RawNet → Graph → List Bool → Type 0
IsGraphContradictory net graph bits =
    (table : ℕ → VertexState) × IsLeastClosed net graph bits table
    × All (λ edge. (sets : ℕ → BitSet) → ¬ IsFeasible net bits table edge sets) graph.edges

-- the verdict of a graph over so many variables
abbrev pub IsGraphVerdict : RawNet → ℕ → Graph → Verdict → Type 0
IsGraphVerdict net vars graph verdict =
    IsVerdict vars (IsGraphStrong net graph) (IsGraphWeak net graph)
    (IsGraphContradictory net graph) verdict

-- Law: in a net without loops some function of the assignments decides each finding.
pub record GraphFindingsAreDecided : Type 0 where
  pub strong : (net : RawNet) (vars : ℕ) (graph : Graph) → IsSettled net → IsGraph graph →
      (function : List Bool → Bool) × Tells vars function (IsGraphStrong net graph)
  pub weak : (net : RawNet) (vars : ℕ) (graph : Graph) → IsSettled net → IsGraph graph →
      (function : List Bool → Bool) × Tells vars function (IsGraphWeak net graph)
  pub contradictory : (net : RawNet) (vars : ℕ) (graph : Graph) → IsSettled net → IsGraph graph →
      (function : List Bool → Bool) × Tells vars function (IsGraphContradictory net graph)

-- Law: in a net without loops a graph has exactly one verdict.
pub record OneGraphVerdict : Type 0 where
  pub some : (net : RawNet) (vars : ℕ) (graph : Graph) → IsSettled net → IsGraph graph →
      (verdict : Verdict) × IsGraphVerdict net vars graph verdict
  pub same : (net : RawNet) (vars : ℕ) (graph : Graph) (one other : Verdict) →
      IsGraphVerdict net vars graph one → IsGraphVerdict net vars graph other → one ≡ other

-- Law: a graph with the verdict pass, or contradictory antecedent, holds.
abbrev pub GraphPassHolds : Type 0
GraphPassHolds =
    (net : RawNet) (vars : ℕ) (graph : Graph) (verdict : Verdict) → IsSettled net → IsGraph graph →
    (verdict ≡ Pass) ⊎ (verdict ≡ Vacuous) → IsGraphVerdict net vars graph verdict →
    GraphHolds net vars graph
