-- What a failure of a graph shows, from the parts: the least assignment, the path, the place and the run.
use Rattle.std.proofs.Common.{◌≡◌, ◌<◌, ℕ, Bool, true, false, List, [], ◌∷◌, length, get_or, Option, None, Some, refl, sym, ◌∙◌, subst, All, inl, inr}
use Rattle.std.specs.Prelude.{IsTrue}
use Rattle.std.proofs.lemmas.List.Elements.{All-cons, All-contains, All-head, All-map, All-nil, All-tail}
use Rattle.ste_base.specs.Functions.{Function}
use Rattle.counter_run.specs.Along.{DoAgree, IsNumberedPath}
use Rattle.net_core.specs.declared.bit_set.BitSet.{BitSet}
use Rattle.net_core.specs.declared.raw.RawNet.{RawNet}
use Rattle.net_core.specs.Run.{Cut as AskedCut}
use Rattle.net_core.specs.Sets.{IsIn, neither}
use Rattle.ste_base.specs.declared.id.NodeId.{NodeId}
use Rattle.engine_parts.specs.declared.failing.Failure.{Failure}
use Rattle.engine_parts.specs.declared.failing.Failure.TheVariants as failure
use Rattle.engine_parts.specs.Failing.{FailsBy}
use Rattle.ste_model.specs.declared.run.Run.{Run}
use Rattle.ste_model.specs.declared.task.Edge.{Edge}
use Rattle.ste_model.specs.declared.task.Graph.{Graph}
use Rattle.ste_model.specs.declared.task.Task.TheVariants.{Gste}
use Rattle.ste_model.specs.declared.verdict.Verdict.TheVariants.{Strong, Weak}
use Rattle.ste_model.specs.Assignments.{SomeAssignment, Tells}
use Rattle.ste_model.specs.Edges.{AreNumbers, IsPathFrom, bind_at, bind_cuts}
use Rattle.ste_model.specs.Found.{FailsStrongly, FailsWeakly}
use Rattle.ste_model.specs.GraphFound.{IsGraphFound, IsGraphStrong, IsGraphWeak}
use Rattle.ste_model.specs.GraphReport.{GraphPrints, IsGraphPlace, IsGraphShown}
use Rattle.ste_model.specs.GraphShown.{IsPrintedAlong, IsShownPath}
use Rattle.ste_model.specs.GraphTable.{IsFeasible, VertexState}
use Rattle.ste_model.specs.Least.{IsLeast, IsLeastOf}
use Rattle.ste_model.specs.Runs.{HasRows, run_of}
use Rattle.ste_model.specs.Shown.{AsksOfNets, IsBindable}
use Rattle.gste_engine.specs.private.Due.{IsGraphRunDue}
use Rattle.gste_engine.specs.private.Judged.{IsGraphFailureOf, IsGraphFoundBy}
use Rattle.gste_engine.proofs.GraphPlaces.{numbers_long}

-- ---- the least assignment

pub found_of : (f : Failure) (net : RawNet) (graph : Graph) (bits : List Bool) → IsGraphFoundBy f net graph bits → IsGraphFound (FailsBy f) net graph bits
found_of failure.Strong net graph bits h = h
found_of failure.Weak net graph bits h = h.1

module _ (f : Failure) (net : RawNet) (vars : ℕ) (graph : Graph) (told : Function) (tells : Tells vars told (IsGraphFoundBy f net graph)) where
  pub least_has : (bits : List Bool) → IsLeast vars (λ other. IsTrue (told other)) bits → IsGraphFoundBy f net graph bits
  least_has bits h = (tells bits h.long).0 h.has

  pub least_shown : (bits : List Bool) (numbers : List ℕ) (place : NodeId × ℕ) → IsLeast vars (λ other. IsTrue (told other)) bits → IsShownPath (FailsBy f) net graph bits numbers → IsGraphPlace (FailsBy f) net graph bits numbers place
      → IsGraphShown (IsGraphFoundBy f net graph) (FailsBy f) net vars graph (Some bits) numbers (Some place)
  least_shown bits numbers place h path p = record {
    bits = bits;
    least_is = refl;
    is_least = record { long = h.long; has = least_has bits h; least = λ other l is. h.least other l ((tells other l).1 is) };
    is_path = path;
    place = place;
    fails_is = refl;
    is_place = p;
  }

  pub none_least : IsLeastOf vars told None → SomeAssignment vars (IsGraphFoundBy f net graph) → ⊥
  none_least none some = let e : false ≡ true = sym (none some.0 some.1) ∙ (tells some.0 some.1).1 some.2 in cc e

-- ---- the run

some_bit : (z o : Bool) → (record { zero = z; one = o } ≡ neither → ⊥) → (bit : Bool) × IsIn bit (record { zero = z; one = o })
some_bit true o full = (false, refl)
some_bit false true full = (true, refl)
some_bit false false full = absurd (full refl)

-- an edge that is feasible asks no net for both bits
edge_agrees : (net : RawNet) (bits : List Bool) (table : ℕ → VertexState) (edge : Edge) → All (λ bind. bind.node.0 < net.nets) edge.ant → ((sets : ℕ → BitSet) × IsFeasible net bits table edge sets) → DoAgree (bind_cuts edge.ant bits)
edge_agrees net bits table edge inside (sets, f) = λ i d l. λ j e m. λ one_on other_on same.
    let cuts = bind_cuts edge.ant bits in
    let one : AskedCut = get_or cuts i d in
    let lt : one.node < net.nets = All-map (λ cut. cut.node < net.nets) (bind_at bits) edge.ant inside i d l in
    let has = some_bit (sets one.node).zero (sets one.node).one (λ empty. f.full (one.node, lt, empty)) in
    let left = ((f.possible.each one.node has.0).0 has.1).left in
    left i d l one_on refl ∙ sym (left j e m other_on (sym same))

path_agrees : (net : RawNet) (graph : Graph) (bits : List Bool) (table : ℕ → VertexState) → AsksOfNets net (Gste graph) → (vertex : ℕ) (path : List Edge) → IsPathFrom graph.edges vertex path → All (λ edge. (sets : ℕ → BitSet) × IsFeasible net bits table edge sets) path → All (λ edge. DoAgree (bind_cuts edge.ant bits)) path
path_agrees net graph bits table nets vertex [] is_path feasible = All-nil (λ (edge : Edge). DoAgree (bind_cuts edge.ant bits))
path_agrees net graph bits table nets vertex (edge ∷ path) is_path feasible =
    let inside = All-contains (λ (e : Edge). All (λ bind. bind.node.0 < net.nets) e.ant) graph.edges edge nets is_path.0 in
    All-cons (λ (e : Edge). DoAgree (bind_cuts e.ant bits)) edge path
    (edge_agrees net bits table edge inside (All-head (λ (e : Edge). (sets : ℕ → BitSet) × IsFeasible net bits table e sets) edge path feasible))
    (path_agrees net graph bits table nets edge.to path is_path.2 (All-tail (λ (e : Edge). (sets : ℕ → BitSet) × IsFeasible net bits table e sets) edge path feasible))

module _ (net : RawNet) (graph : Graph) (bits : List Bool) (numbers : List ℕ) (shown : IsShownPath FailsStrongly net graph bits numbers) where
  pub numbered : AsksOfNets net (Gste graph) → IsNumberedPath graph bits numbers
  numbered nets = record {
    path = shown.path;
    are = shown.are;
    is_path = shown.candidate.is_path;
    agree = path_agrees net graph bits shown.candidate.table nets 0 shown.path shown.candidate.is_path shown.candidate.feasible;
  }

  pub run_is_due : (run : Run) → IsBindable net (Gste graph) → HasRows net.nets (length numbers) run → ((edges : List Edge) → AreNumbers graph numbers edges → IsPrintedAlong net graph bits edges (run_of run)) → IsGraphRunDue net graph bits numbers (Some run)
  run_is_due run bindable rows printed = inl (
    bindable,
    record {
      bits = bits;
      least_is = refl;
      told = run;
      run_is = refl;
      path = shown.path;
      are = shown.are;
      rows = subst (λ n. HasRows net.nets n run) (numbers_long graph numbers shown.path shown.are) rows;
      printed = printed shown.path shown.are;
    },
  )

-- ---- with the verdict

module _ (net : RawNet) (vars : ℕ) (graph : Graph) (bits : List Bool) (numbers : List ℕ) (place : NodeId × ℕ) where
  pub strong_shows : (run : Option Run) → IsGraphShown (IsGraphStrong net graph) FailsStrongly net vars graph (Some bits) numbers (Some place) → IsGraphRunDue net graph bits numbers run → IsGraphFailureOf net vars graph Strong (Some bits) numbers (Some place) run
  strong_shows run shown due = record { shown = inl (refl, shown); run = by due }
    where
      by : IsGraphRunDue net graph bits numbers run → GraphPrints net graph Strong (Some bits) numbers run
      by (inl d) = inl ((refl, d.0), d.1)
      by (inr d) = inr (λ h. d.0 h.1, d.1)

  pub weak_shows : IsGraphShown (IsGraphWeak net graph) FailsWeakly net vars graph (Some bits) numbers (Some place) → IsGraphFailureOf net vars graph Weak (Some bits) numbers (Some place) None
  weak_shows shown = record { shown = inr (inl (refl, shown)); run = inr (λ h. absurd (cc h.0), refl) }
