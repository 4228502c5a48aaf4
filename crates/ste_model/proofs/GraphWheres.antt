-- The functions of the results give the findings of a graph, assignment by assignment.
use Rattle.std.proofs.Common.{◌≡◌, ℕ, ◌<◌, Bool, true, false, not, List, map, length, get_or, refl, subst, ◌∙◌}
use Rattle.std.specs.Prelude.{All, Any, Contains, IsTrue, ◌↔◌}
use Rattle.std.specs.List.{flat_map}
use Rattle.std.proofs.lemmas.Bool.{and_from, and_parts, both_ways, not-true, not_from_false}
use Rattle.std.proofs.lemmas.List.{get_or_default}
use Rattle.std.proofs.lemmas.List.Elements.{All-contains}
use Rattle.net_core.specs.declared.bit_set.BitSet.{BitSet}
use Rattle.net_core.specs.declared.raw.RawNet.{RawNet}
use Rattle.net_core.specs.Possible.{ArePossible}
use Rattle.net_core.specs.Run.{IsSettled}
use Rattle.net_core.specs.Sets.{both, only}
use Rattle.ste_base.specs.Functions.{Function}
use Rattle.net_core.specs.Work.{SymbolicCut, SymbolicSet, conjunction, negation, set_at, some_empty, sum}
use Rattle.net_core.proofs.Possible.{one_family}
use Rattle.ste_model.specs.declared.task.Edge.{Edge}
use Rattle.ste_model.specs.declared.task.Graph.{Graph}
use Rattle.ste_model.specs.Edges.{IsGraph, asked_on}
use Rattle.ste_model.specs.GraphFound.{FailsOn, IsGraphContradictory, IsGraphFound, IsGraphStrong, IsGraphWeak}
use Rattle.ste_model.specs.GraphNeed.{AreWholeRounds, GraphResultsAreFindings}
use Rattle.ste_model.specs.GraphTable.{IsFeasible, IsLeastClosed, VertexState, enough}
use Rattle.ste_model.specs.GraphWork.{SymbolicState, feasible_where, graph_contradictory_where, graph_feasible, graph_strong_where, graph_weak, graph_weak_where, state_at, symbolic_binds, where_feasible}
use Rattle.ste_model.specs.Work.{both_bits, refutes}
use Rattle.ste_model.proofs.GraphVerdicts.{fails_in, found_in}
use Rattle.ste_model.proofs.Rounds.{least_alike, settle_all}
use Rattle.ste_model.proofs.SumsAt.{empty_is, found_is, strong_bits, sum_each, sum_parts, weak_bits}

is_false : (b : Bool) → (b ≡ true → ⊥) → b ≡ false
is_false true h = absurd (h refl)
is_false false h = refl

-- where each consequent of an edge is found so, and the edge is feasible
abbrev found_functions : (SymbolicSet → Function → Function) → RawNet → Edge → SymbolicState → (ℕ → SymbolicSet) → List Function
found_functions finds net edge source sets =
    where_feasible net source sets (map (λ (d : SymbolicCut). conjunction d.guard (finds (sets d.node) d.value)) (symbolic_binds edge.con))

in_list : {X : Type 0} (P : X → Type 0) (xs : List X) (k : ℕ) (d : X) → k < length xs → P (get_or xs k d) → Any P xs
in_list P xs k d l h = (k, get_or xs k d, l, get_or_default xs k (get_or xs k d) d l, h)

-- where an element of a list has the one fact it has the other
any_alike : {X : Type 0} (P Q : X → Type 0) (xs : List X) → All (λ x. P x ↔ Q x) xs → Any P xs → Any Q xs
any_alike P Q xs alike any = (any.0, any.1, any.2, any.3, (All-contains (λ x. P x ↔ Q x) xs any.1 alike (any.0, any.2, any.3)).0 any.4)

module _ (net : RawNet) (graph : Graph) (table : ℕ → SymbolicState) (sets : Edge → ℕ → SymbolicSet) (settled : IsSettled net) (bits : List Bool) where
  abbrev pub here : ℕ → VertexState
  here vertex = state_at bits (table vertex)

  abbrev pub sets_here : Edge → ℕ → BitSet
  sets_here edge id = set_at bits (sets edge id)

  module _ (edge : Edge) (possible : ArePossible net (here edge.from).latches (asked_on edge bits) (sets_here edge)) where
    -- the edge is feasible just where its function is 1
    feasible_is : IsTrue (feasible_where net (table edge.from) (sets edge) bits) ↔ IsFeasible net bits here edge (sets_here edge)
    feasible_is =
        let empty = empty_is net (sets edge) bits in (
          λ h. let p = and_parts ((table edge.from).reached bits) (not (some_empty net (sets edge) bits)) h in
              record { reached = p.0; possible = possible; full = λ none. both_ways (some_empty net (sets edge) bits) (not-true (some_empty net (sets edge) bits) p.1) (empty.1 none) },
          λ f. and_from ((table edge.from).reached bits) (not (some_empty net (sets edge) bits)) f.reached
              (not_from_false (some_empty net (sets edge) bits) (is_false (some_empty net (sets edge) bits) (λ e. f.full (empty.0 e)))),
        )

    -- and then it is with whichever sets
    moved : (other : ℕ → BitSet) → IsFeasible net bits here edge other → IsFeasible net bits here edge (sets_here edge)
    moved other f = record {
      reached = f.reached;
      possible = possible;
      full = λ none. f.full (none.0, none.1, one_family net (here edge.from).latches (asked_on edge bits) settled other (sets_here edge) f.possible possible none.0 ∙ none.2);
    }

    none_is : (IsTrue (feasible_where net (table edge.from) (sets edge) bits) → ⊥) ↔ ((other : ℕ → BitSet) → ¬ IsFeasible net bits here edge other)
    none_is = (λ none other f. none (feasible_is.1 (moved other f)), λ none h. none (sets_here edge) (feasible_is.0 h))

    -- a finding, whichever it is
    module _ (finds : SymbolicSet → Function → Function) (Says : BitSet → Bool → Type 0) (is : (w : SymbolicSet) (x : Function) → IsTrue (finds w x bits) ↔ Says (set_at bits w) (x bits)) where
      fails_is : IsTrue (sum (found_functions finds net edge (table edge.from) (sets edge)) bits) ↔ FailsOn (λ s cut. IsTrue cut.on × Says (s cut.node) cut.value) net bits here edge
      fails_is =
          let found = found_is finds Says bits is (feasible_where net (table edge.from) (sets edge)) (sets edge) edge.con in (
            λ h. let p = found.0 h in (sets_here edge, feasible_is.0 p.0, p.1),
            λ fails.
                let feasible = moved fails.0 fails.1 in
                found.1 (feasible_is.1 feasible, fails_in (λ set cut. IsTrue cut.on × Says set cut.value) net bits settled here edge (sets_here edge) feasible fails),
          )

  module _ (possible : All (λ edge. ArePossible net (here edge.from).latches (asked_on edge bits) (sets_here edge)) graph.edges) (least : IsLeastClosed net graph bits here) where
    contradictory_is : IsTrue (negation (sum (graph_feasible net graph table sets)) bits) ↔ IsGraphContradictory net graph bits
    contradictory_is =
        let each = sum_each (λ (edge : Edge). feasible_where net (table edge.from) (sets edge)) graph.edges bits in
        let total = sum (graph_feasible net graph table sets) bits in (
          λ h. (here, least, λ k d l. (none_is (get_or graph.edges k d) (possible k d l)).0 (λ f. both_ways total (not-true total h) (each.1 (in_list (λ (edge : Edge). IsTrue (feasible_where net (table edge.from) (sets edge) bits)) graph.edges k d l f)))),
          λ c.
              let none = subst (λ (t : ℕ → VertexState). All (λ edge. (s : ℕ → BitSet) → ¬ IsFeasible net bits t edge s) graph.edges) (least_alike net graph bits c.0 here c.1 least) c.2 in
              not_from_false total (is_false total (λ e.
              let any = each.0 e in
              let at : Contains graph.edges any.1 = (any.0, any.2, any.3) in
              (none_is any.1 (All-contains (λ edge. ArePossible net (here edge.from).latches (asked_on edge bits) (sets_here edge)) graph.edges any.1 possible at)).1
              (All-contains (λ edge. (s : ℕ → BitSet) → ¬ IsFeasible net bits here edge s) graph.edges any.1 none at) any.4)),
        )

    module _ (finds : SymbolicSet → Function → Function) (Says : BitSet → Bool → Type 0) (is : (w : SymbolicSet) (x : Function) → IsTrue (finds w x bits) ↔ Says (set_at bits w) (x bits)) where
      pub finding_is : IsTrue (sum (flat_map (λ (edge : Edge). found_functions finds net edge (table edge.from) (sets edge)) graph.edges) bits) ↔ IsGraphFound (λ s cut. IsTrue cut.on × Says (s cut.node) cut.value) net graph bits
      finding_is =
          let parts = sum_parts (λ (edge : Edge). found_functions finds net edge (table edge.from) (sets edge)) graph.edges bits in
          let P = λ (edge : Edge). IsTrue (sum (found_functions finds net edge (table edge.from) (sets edge)) bits) in
          let Q = λ (edge : Edge). FailsOn (λ s cut. IsTrue cut.on × Says (s cut.node) cut.value) net bits here edge in
          let each = λ (k : ℕ) (d : Edge) (l : k < length graph.edges). fails_is (get_or graph.edges k d) (possible k d l) finds Says is in (
            λ h. (here, least, any_alike P Q graph.edges each (parts.0 h)),
            λ found. parts.1 (any_alike Q P graph.edges (λ k d l. ((each k d l).1, (each k d l).0)) (found_in (λ set cut. IsTrue cut.on × Says set cut.value) net bits settled graph here least found)),
          )

module _ (net : RawNet) (vars : ℕ) (graph : Graph) (tables : ℕ → ℕ → SymbolicState) (sets : ℕ → Edge → ℕ → SymbolicSet) (settled : IsSettled net) (good : IsGraph graph) (whole : AreWholeRounds net vars graph tables sets) (bits : List Bool) (long : length bits ≡ vars) where
  abbrev n : ℕ
  n = enough net graph

  least : IsLeastClosed net graph bits (here net graph (tables n) (sets n) settled bits)
  least = settle_all net graph bits (λ m vertex. state_at bits (tables m vertex)) settled good (whole.rounds bits long)

  strong : IsTrue (graph_strong_where net graph (tables n) (sets n) bits) ↔ IsGraphStrong net graph bits
  strong = finding_is net graph (tables n) (sets n) settled bits (whole.possible bits long n) least refutes (λ set v. set ≡ only (not v)) (λ w x. strong_bits (w.zero bits) (w.one bits) (x bits))

  weak : IsTrue (graph_weak_where net graph (tables n) (sets n) bits) ↔ IsGraphWeak net graph bits
  weak =
      let w = finding_is net graph (tables n) (sets n) settled bits (whole.possible bits long n) least (λ w x. both_bits w) (λ set v. set ≡ both) (λ w x. weak_bits (w.zero bits) (w.one bits)) in
      let s = graph_strong_where net graph (tables n) (sets n) bits in
      let all = sum (graph_weak net graph (tables n) (sets n)) bits in (
        λ h. let p = and_parts all (not s) h in (λ is. both_ways s (not-true s p.1) (strong.1 is), w.0 p.0),
        λ h. and_from all (not s) (w.1 h.1) (not_from_false s (is_false s (λ e. h.0 (strong.0 e)))),
      )

  contradictory : IsTrue (graph_contradictory_where net graph (tables n) (sets n) bits) ↔ IsGraphContradictory net graph bits
  contradictory = contradictory_is net graph (tables n) (sets n) settled bits (whole.possible bits long n) least

pub graph_results_are_findings : GraphResultsAreFindings
graph_results_are_findings = record {
  contradictory = λ net vars graph tables sets settled good whole bits long. contradictory net vars graph tables sets settled good whole bits long;
  strong = λ net vars graph tables sets settled good whole bits long. strong net vars graph tables sets settled good whole bits long;
  weak = λ net vars graph tables sets settled good whole bits long. weak net vars graph tables sets settled good whole bits long;
}
