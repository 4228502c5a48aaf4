-- The path that a failure shows under an assignment, and its failing place, from the settled table.
use Rattle.std.proofs.Common.{◌≡◌, ◌<◌, ◌-◌, ℕ, zero, suc, Bool, List, [], ◌∷◌, length, get_or, Option, None, Some, refl, sym, ◌∙◌, ap, subst, arith, All}
use Rattle.std.specs.Prelude.{slice_get}
use Rattle.std.proofs.lemmas.List.{length-map}
use Rattle.std.proofs.lemmas.List.Elements.{All-cons, All-head, All-nil, All-tail}
use Rattle.std.proofs.lemmas.Option.{get_or_from_slice_get}
use Rattle.dd_nodes.specs.Stores.{Store}
use Rattle.dd_nodes.proofs.Stores.{IsGood}
use Rattle.graph_path.specs.declared.hop.Hop.{Hop}
use Rattle.net_core.specs.declared.bit_set.BitSet.{BitSet}
use Rattle.net_core.specs.declared.raw.RawNet.{RawNet}
use Rattle.net_core.specs.Run.{Cut as AskedCut, IsSettled}
use Rattle.net_core.specs.Work.{set_at}
use Rattle.ste_base.specs.declared.id.NodeId.{NodeId}
use Rattle.engine_parts.specs.declared.failing.Failure.{Failure}
use Rattle.engine_parts.specs.declared.failing.Failure.TheVariants.{Strong, Weak}
use Rattle.engine_parts.specs.Failing.{FailsBy, MakesNothing}
use Rattle.ste_model.specs.declared.task.Edge.{Edge}
use Rattle.ste_model.specs.declared.task.Graph.{Graph}
use Rattle.ste_model.specs.Edges.{AreNumbers, IsGraph}
use Rattle.ste_model.specs.GraphFound.{FailsOn, IsGraphFound}
use Rattle.ste_model.specs.GraphHops.{AreEdgeHops, PathIsShown}
use Rattle.ste_model.specs.GraphNeed.{AreWholeRounds}
use Rattle.ste_model.specs.GraphReport.{IsGraphPlace}
use Rattle.ste_model.specs.GraphShown.{HasCandidate, IsShownPath}
use Rattle.ste_model.specs.GraphTable.{IsLeastClosed, VertexState, enough}
use Rattle.ste_model.specs.GraphWork.{SymbolicState, state_at}
use Rattle.ste_model.proofs.HopRoutes.{paths_are_shown}
use Rattle.ste_model.proofs.NextRound.{rounds_settle}
use Rattle.ste_model.proofs.Reached.{found_has_candidate}
use Rattle.ste_model.proofs.Rounds.{least_alike}
use Rattle.gste_engine.specs.declared.state.State.{State}
use Rattle.gste_engine.specs.declared.taken.Taken.{Taken}
use Rattle.gste_engine.specs.Tables.{AreStateRefs}
use Rattle.gste_engine.specs.private.Judged.{IsSettledTable}
use Rattle.gste_engine.specs.private.Taken.{IsFirstOn, IsTaken, table_at}
use Rattle.gste_engine.proofs.StateRefs.{State-keeps, state_refs}

-- ---- both ways to fail

pub shown_by : (f : Failure) → PathIsShown (FailsBy f)
shown_by Strong = paths_are_shown.strong
shown_by Weak = paths_are_shown.weak

pub candidate_by : (f : Failure) (net : RawNet) (graph : Graph) (bits : List Bool) → IsSettled net → IsGraph graph → IsGraphFound (FailsBy f) net graph bits → HasCandidate (FailsBy f) net graph bits
candidate_by Strong net graph bits settled good found = found_has_candidate.strong net graph bits settled good found
candidate_by Weak net graph bits settled good found = found_has_candidate.weak net graph bits settled good found

-- ---- the settled table

pub settled_keeps : (s t : Store) (net : RawNet) (graph : Graph) (states : List State) → IsGood s → IsGood t → MakesNothing s t → IsSettledTable net graph s states → IsSettledTable net graph t states
settled_keeps s t net graph states gs gt same h = record {
  tables = h.tables;
  sets = h.sets;
  whole = subst (λ v. AreWholeRounds net v graph h.tables h.sets) (sym same.keeps.vars) h.whole;
  has = record { long = h.has.long; each = λ vertex d lt. State-keeps s t (h.tables (enough net graph) vertex) (get_or states vertex d) gs gt same.keeps (h.has.each vertex d lt) };
}

module _ (net : RawNet) (graph : Graph) (bits : List Bool) (s : Store) (states : List State) (settled : IsSettled net) (good : IsGraph graph) (is : IsSettledTable net graph s states) (long : length bits ≡ s.vars) where
  abbrev pub last_states : ℕ → SymbolicState
  last_states = is.tables (enough net graph)

  pub least_closed : IsLeastClosed net graph bits (table_at bits last_states)
  least_closed = rounds_settle.settle net graph bits (λ n vertex. state_at bits (is.tables n vertex)) settled good (is.whole.rounds bits long)

  pub table_refs : All (AreStateRefs s net) states
  table_refs = λ k d lt.
      let wide = sym (length-map (last_states k).latches (set_at bits)) ∙ least_closed.closed.long k in
      state_refs s net (last_states k) (get_or states k d) wide (is.has.each k d lt)

-- ---- the path

pub hops_lead : (Fails : (ℕ → BitSet) → AskedCut → Type 0) (net : RawNet) (bits : List Bool) (table : ℕ → VertexState) (n : ℕ) (edges : List Edge) (hops : List Hop) → AreEdgeHops Fails net bits table edges hops → All (λ edge. edge.to < n) edges → All (λ hop. hop.to < n) hops
hops_lead Fails net bits table n [] [] are ends = All-nil (λ (hop : Hop). hop.to < n)
hops_lead Fails net bits table n [] (h ∷ hops) are ends = absurd are
hops_lead Fails net bits table n (e ∷ edges) [] are ends = absurd are
hops_lead Fails net bits table n (e ∷ edges) (h ∷ hops) are ends = All-cons (λ (hop : Hop). hop.to < n) h hops (subst (λ k. k < n) (sym are.0.to) (All-head (λ (edge : Edge). edge.to < n) e edges ends)) (hops_lead Fails net bits table n edges hops are.1 (All-tail (λ (edge : Edge). edge.to < n) e edges ends))

pub numbers_long : (graph : Graph) (numbers : List ℕ) (path : List Edge) → AreNumbers graph numbers path → length numbers ≡ length path
numbers_long graph [] [] are = refl
numbers_long graph [] (edge ∷ path) are = absurd are
numbers_long graph (n ∷ numbers) [] are = absurd are
numbers_long graph (n ∷ numbers) (edge ∷ path) are = ap suc (numbers_long graph numbers path are.1)

edge_at : (graph : Graph) (numbers : List ℕ) (path : List Edge) → AreNumbers graph numbers path → (i : ℕ) (edge : Edge) (d : ℕ) → slice_get path i ≡ Some edge → slice_get graph.edges (get_or numbers i d) ≡ Some edge
edge_at graph [] [] are i edge d e = absurd (cc e)
edge_at graph [] (x ∷ path) are i edge d e = absurd are
edge_at graph (n ∷ numbers) [] are i edge d e = absurd are
edge_at graph (n ∷ numbers) (x ∷ path) are zero edge d e = are.0 ∙ e
edge_at graph (n ∷ numbers) (x ∷ path) are (suc i) edge d e = edge_at graph numbers path are.1 i edge d e

-- ---- the place

module _ (f : Failure) (net : RawNet) (graph : Graph) (bits : List Bool) (numbers : List ℕ) (shown : IsShownPath (FailsBy f) net graph bits numbers) where
  pub some_edges : 0 < length numbers
  some_edges =
      let n = numbers_long graph numbers shown.path shown.are in
      let l = shown.candidate.last.last in
      omega (arith, n, l)

  abbrev pub last_edge : Edge
  last_edge = shown.candidate.edge

  module _ (time : ℕ) (is_time : time ≡ length numbers - 1) where
    is_last : time ≡ shown.candidate.last.number
    is_last =
        let n = numbers_long graph numbers shown.path shown.are in
        let l = shown.candidate.last.last in
        omega (arith, n, l, is_time)

    here : slice_get shown.path time ≡ Some last_edge
    here = ap (slice_get shown.path) is_last ∙ shown.candidate.last.here

    pub last_at : slice_get graph.edges (get_or numbers time 0) ≡ Some last_edge
    last_at = edge_at graph numbers shown.path shown.are time last_edge 0 here

    pub last_is : (edge : Edge) → edge ≡ get_or graph.edges (get_or numbers time 0) edge → edge ≡ last_edge
    last_is edge at = at ∙ get_or_from_slice_get graph.edges (get_or numbers time 0) last_edge edge last_at

    module _ (table : ℕ → VertexState) (closed : IsLeastClosed net graph bits table) (edge : Edge) (same : edge ≡ last_edge) (told : Taken) (taken : IsTaken f net bits table edge told) where
      on_last : (o : Option NodeId) → told.first ≡ o → IsFirstOn f net bits table last_edge o
      on_last o e = subst (λ (x : Edge). IsFirstOn f net bits table x o) same (subst (IsFirstOn f net bits table edge) e taken.first)

      pub not_none : told.first ≡ None → ⊥
      not_none e = on_last None e (subst (λ (t : ℕ → VertexState). FailsOn (FailsBy f) net bits t last_edge) (least_alike net graph bits shown.candidate.table table shown.candidate.is_table closed) shown.candidate.fails)

      pub place_is : (node : NodeId) → told.first ≡ Some node → IsGraphPlace (FailsBy f) net graph bits numbers (node, time)
      place_is node e =
          let h = on_last (Some node) e in
          let n = numbers_long graph numbers shown.path shown.are in
          let some = some_edges in
          record {
            path = shown.path;
            are = shown.are;
            number = h.number;
            is_place = record {
              table = table;
              is_table = closed;
              edge = last_edge;
              time = omega (arith, n, is_time, some);
              last = here;
              sets = h.sets;
              feasible = h.feasible;
              first = h.first;
            };
            node = h.is;
          }
