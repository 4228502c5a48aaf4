-- Each finding of a graph is given by a function of the assignments, and so there is exactly one verdict.
use Rattle.std.proofs.Common.{◌≡◌, ℕ, Bool, true, not, List, refl, subst}
use Rattle.std.specs.Prelude.{All, Any, IsTrue}
use Rattle.net_core.specs.declared.bit_set.BitSet.{BitSet}
use Rattle.net_core.specs.declared.raw.RawNet.{RawNet}
use Rattle.net_core.specs.Run.{Cut, IsSettled}
use Rattle.net_core.specs.Sets.{both, only}
use Rattle.net_core.proofs.Possible.{all_or_not, and_or_not, not_or_not, one_family, same_or_not}
use Rattle.ste_model.specs.declared.task.Edge.{Edge}
use Rattle.ste_model.specs.declared.task.Graph.{Graph}
use Rattle.ste_model.specs.declared.verdict.Verdict.{Verdict}
use Rattle.ste_model.specs.declared.verdict.Verdict.TheVariants.{Pass, Weak, Strong, Vacuous, Budget}
use Rattle.ste_model.specs.Edges.{IsGraph, asked_on, bind_cuts}
use Rattle.ste_model.specs.Found.{IsVerdict}
use Rattle.ste_model.specs.GraphFound.{FailsOn, GraphFindingsAreDecided, IsGraphContradictory, IsGraphFound, IsGraphStrong, IsGraphVerdict, IsGraphWeak, OneGraphVerdict}
use Rattle.ste_model.specs.GraphTable.{IsFeasible, IsLeastClosed, VertexState}
use Rattle.ste_model.proofs.Decisions.{set_or_not, some_or_not, tells_each, tells_some, told}
use Rattle.ste_model.proofs.Findings.{verdict_from}
use Rattle.ste_model.proofs.NextRound.{feasible_or_not, some_least}
use Rattle.ste_model.proofs.Rounds.{least_alike}

-- what is found of a set at an edge is found in whichever possible sets of it
module _ (Says : BitSet → Cut → Type 0) (net : RawNet) (bits : List Bool) (settled : IsSettled net) where
  pub fails_in : (table : ℕ → VertexState) (edge : Edge) (sets : ℕ → BitSet) → IsFeasible net bits table edge sets → FailsOn (λ s cut. Says (s cut.node) cut) net bits table edge → Any (λ cut. Says (sets cut.node) cut) (bind_cuts edge.con bits)
  fails_in table edge sets feasible fails =
      let any = fails.2 in
      let same = one_family net (table edge.from).latches (asked_on edge bits) settled fails.0 sets fails.1.possible feasible.possible any.1.node in
      (any.0, any.1, any.2, any.3, subst (λ (s : BitSet). Says s any.1) same any.4)

  pub found_in : (graph : Graph) (table : ℕ → VertexState) → IsLeastClosed net graph bits table → IsGraphFound (λ s cut. Says (s cut.node) cut) net graph bits → Any (FailsOn (λ s cut. Says (s cut.node) cut) net bits table) graph.edges
  found_in graph table least found =
      subst (λ (t : ℕ → VertexState). Any (FailsOn (λ s cut. Says (s cut.node) cut) net bits t) graph.edges) (least_alike net graph bits found.0 table found.1 least) found.2

module _ (net : RawNet) (graph : Graph) (settled : IsSettled net) (good : IsGraph graph) where
  none_or_not : (bits : List Bool) (table : ℕ → VertexState) (edge : Edge) → Dec ((sets : ℕ → BitSet) → ¬ IsFeasible net bits table edge sets)
  none_or_not bits table edge = elim (feasible_or_not net graph bits settled table edge) [
    | yes h ↦ no (λ none. none h.0 h.1)
    | no h ↦ yes (λ sets feasible. h (sets, feasible))
  ]

  contradictory_or_not : (bits : List Bool) → Dec (IsGraphContradictory net graph bits)
  contradictory_or_not bits =
      let made = some_least net graph bits settled good in
      let None = λ (t : ℕ → VertexState). All (λ edge. (sets : ℕ → BitSet) → ¬ IsFeasible net bits t edge sets) graph.edges in
      elim (all_or_not (λ edge. (sets : ℕ → BitSet) → ¬ IsFeasible net bits made.0 edge sets) (none_or_not bits made.0) graph.edges) [
        | yes h ↦ yes (made.0, made.1, h)
        | no h ↦ no (λ c. h (subst None (least_alike net graph bits c.0 made.0 c.1 made.1) c.2))
      ]

  module _ (Says : BitSet → Cut → Type 0) (or_not : (set : BitSet) (cut : Cut) → Dec (Says set cut)) (bits : List Bool) where
    fails_or_not : (table : ℕ → VertexState) (edge : Edge) → Dec (FailsOn (λ s cut. Says (s cut.node) cut) net bits table edge)
    fails_or_not table edge = elim (feasible_or_not net graph bits settled table edge) [
      | no h ↦ no (λ fails. h (fails.0, fails.1))
      | yes h ↦ elim (some_or_not (λ cut. Says (h.0 cut.node) cut) (λ cut. or_not (h.0 cut.node) cut) (bind_cuts edge.con bits)) [
        | yes any ↦ yes (h.0, h.1, any)
        | no none ↦ no (λ fails. none (fails_in Says net bits settled table edge h.0 h.1 fails))
      ]
    ]

    found_or_not : Dec (IsGraphFound (λ s cut. Says (s cut.node) cut) net graph bits)
    found_or_not =
        let made = some_least net graph bits settled good in
        elim (some_or_not (FailsOn (λ s cut. Says (s cut.node) cut) net bits made.0) (fails_or_not made.0) graph.edges) [
          | yes any ↦ yes (made.0, made.1, any)
          | no none ↦ no (λ found. none (found_in Says net bits settled graph made.0 made.1 found))
        ]

  strong_or_not : (bits : List Bool) → Dec (IsGraphStrong net graph bits)
  strong_or_not = found_or_not (λ set cut. IsTrue cut.on × (set ≡ only (not cut.value))) (λ set cut. and_or_not (same_or_not cut.on true) (set_or_not set (only (not cut.value))))

  weak_or_not : (bits : List Bool) → Dec (IsGraphWeak net graph bits)
  weak_or_not bits = and_or_not (not_or_not (strong_or_not bits)) (found_or_not (λ set cut. IsTrue cut.on × (set ≡ both)) (λ set cut. and_or_not (same_or_not cut.on true) (set_or_not set both)) bits)

pub graph_findings_are_decided : GraphFindingsAreDecided
graph_findings_are_decided = record {
  strong = λ net vars graph settled good. told vars (IsGraphStrong net graph) (strong_or_not net graph settled good);
  weak = λ net vars graph settled good. told vars (IsGraphWeak net graph) (weak_or_not net graph settled good);
  contradictory = λ net vars graph settled good. told vars (IsGraphContradictory net graph) (contradictory_or_not net graph settled good);
}

some_verdict : (net : RawNet) (vars : ℕ) (graph : Graph) → IsSettled net → IsGraph graph → (verdict : Verdict) × IsGraphVerdict net vars graph verdict
some_verdict net vars graph settled good =
    let s = graph_findings_are_decided.strong net vars graph settled good in
    let w = graph_findings_are_decided.weak net vars graph settled good in
    let c = graph_findings_are_decided.contradictory net vars graph settled good in (
      _,
      verdict_from vars (IsGraphStrong net graph) (IsGraphWeak net graph) (IsGraphContradictory net graph) _ _ _
          (tells_some vars s.0 (IsGraphStrong net graph) s.1) (tells_some vars w.0 (IsGraphWeak net graph) w.1) (tells_each vars c.0 (IsGraphContradictory net graph) c.1),
    )

same_verdict : (vars : ℕ) (S W C : List Bool → Type 0) (one other : Verdict) → IsVerdict vars S W C one → IsVerdict vars S W C other → one ≡ other
same_verdict vars S W C Strong Strong a b = refl
same_verdict vars S W C Strong Weak a b = absurd (b.0 a)
same_verdict vars S W C Strong Vacuous a b = absurd (b.0 a)
same_verdict vars S W C Strong Pass a b = absurd (b.0 a)
same_verdict vars S W C Strong Budget a b = absurd b
same_verdict vars S W C Weak Strong a b = absurd (a.0 b)
same_verdict vars S W C Weak Weak a b = refl
same_verdict vars S W C Weak Vacuous a b = absurd (b.1 a.1)
same_verdict vars S W C Weak Pass a b = absurd (b.1 a.1)
same_verdict vars S W C Weak Budget a b = absurd b
same_verdict vars S W C Vacuous Strong a b = absurd (a.0 b)
same_verdict vars S W C Vacuous Weak a b = absurd (a.1 b.1)
same_verdict vars S W C Vacuous Vacuous a b = refl
same_verdict vars S W C Vacuous Pass a b = absurd (b.2 a.2)
same_verdict vars S W C Vacuous Budget a b = absurd b
same_verdict vars S W C Pass Strong a b = absurd (a.0 b)
same_verdict vars S W C Pass Weak a b = absurd (a.1 b.1)
same_verdict vars S W C Pass Vacuous a b = absurd (a.2 b.2)
same_verdict vars S W C Pass Pass a b = refl
same_verdict vars S W C Pass Budget a b = absurd b
same_verdict vars S W C Budget other a b = absurd a

pub one_graph_verdict : OneGraphVerdict
one_graph_verdict = record {
  some = some_verdict;
  same = λ net vars graph one other a b. same_verdict vars (IsGraphStrong net graph) (IsGraphWeak net graph) (IsGraphContradictory net graph) one other a b;
}
