-- What each edge gives, one edge after another.
use Rattle.std.proofs.Common.{◌≡◌, ℕ, zero, suc, ◌<◌, ◌≤◌, List, [], ◌∷◌, length, get_or, refl, sym, subst, arith, Result, All, Contains, inl, inr}
use Rattle.std.specs.List.{AllZip, flat_map}
use Rattle.std.proofs.lemmas.Bool.{cases_lt}
use Rattle.std.proofs.lemmas.List.{get_or_default, length-map}
use Rattle.std.proofs.lemmas.List.Elements.{Contains-append_left, Contains-append_right}
use Rattle.ste_base.specs.Functions.{Function}
use Rattle.dd_nodes.specs.Stores.{Store, Keeps, Means}
use Rattle.dd_nodes.proofs.Stores.{IsGood}
use Rattle.dd_ops.specs.declared.fault.OpFault.{OpFault}
use Rattle.net_core.specs.declared.raw.RawNet.{RawNet}
use Rattle.net_core.specs.Run.{IsSettled}
use Rattle.net_core.specs.Work.{ArePossibleEach, SymbolicSet}
use Rattle.ste_model.specs.declared.task.Edge.{Edge}
use Rattle.ste_model.specs.GraphWork.{SymbolicState, edge_work, feasible_where, gated_set, given_by, symbolic_asked_on}
use Rattle.dual_rail.specs.Rail.{AreRails, Built}
use Rattle.dual_rail.proofs.Works.{Built-wider, Within}
use Rattle.sym_step.proofs.Whole.{sets_exist}
use Rattle.gste_engine.specs.declared.edge.EdgeFound.{EdgeFound}
use Rattle.gste_engine.specs.declared.state.State.{State}
use Rattle.gste_engine.specs.Tables.{AreStateRefs, HasStates, IsEdgeFound, IsState}
use Rattle.gste_engine.specs.private.Rounds.{IsGivenFrom, edges_work}
use Rattle.gste_engine.specs.private.Sums.{never_state, unreached}
use Rattle.gste_engine.proofs.Arrivals.{never_is}
use Rattle.gste_engine.proofs.Comings.{never_long}
use Rattle.gste_engine.proofs.StateRefs.{State-keeps, own_is, own_long, own_state, state_refs}

abbrev pub given_of : RawNet → (ℕ → SymbolicState) → (Edge → ℕ → SymbolicSet) → Edge → SymbolicState
given_of net states sets edge = given_by net (states edge.from) (sets edge)

pub given_long : (net : RawNet) (states : ℕ → SymbolicState) (sets : Edge → ℕ → SymbolicSet) (edge : Edge) → length (given_of net states sets edge).latches ≡ length net.latches
given_long net states sets edge = length-map net.latches (λ latch. gated_set (sets edge latch.input.0) (feasible_where net (states edge.from) (sets edge)))

pub flat_has : {X : Type 0} (F : X → List Function) (xs : List X) (k : ℕ) (d : X) → k < length xs → Within (F (get_or xs k d)) (flat_map F xs)
flat_has F [] k d lt f h = absurd (omega arith)
flat_has F (x ∷ xs) zero d lt f h = Contains-append_left (F x) (flat_map F xs) f h
flat_has F (x ∷ xs) (suc k) d lt f h = Contains-append_right (F x) (flat_map F xs) f (flat_has F xs k d (omega arith) f h)

-- ---- a table has its own functions

beyond : (xs : List State) (k : ℕ) (d : State) → length xs ≤ k → get_or xs k d ≡ d
beyond [] k d le = refl
beyond (x ∷ xs) zero d le = absurd (omega arith)
beyond (x ∷ xs) (suc k) d le = beyond xs k d (omega arith)

module _ (s : Store) (net : RawNet) (table : List State) (gs : IsGood s) (refs : All (AreStateRefs s net) table) where
  abbrev at_vertex : ℕ → State
  at_vertex v = get_or table v (unreached net)

  at_refs : (v : ℕ) → AreStateRefs s net (at_vertex v)
  at_refs v = elim (cases_lt v (length table)) [
    | inl lt ↦ refs v (unreached net) lt
    | inr le ↦ subst (AreStateRefs s net) (sym (beyond table v (unreached net) le)) (state_refs s net (never_state net) (unreached net) (never_long net) (never_is s net gs))
  ]

  abbrev pub own_table : ℕ → SymbolicState
  own_table v = own_state s (get_or table v (unreached net))

  pub own_has : HasStates own_table (length table) s table
  own_has = record { long = refl; each = λ v d lt. subst (λ (r : State). IsState s (own_table v) r) (get_or_default table v (unreached net) d lt) (own_is s net (at_vertex v) (at_refs v)) }

  own_sets_at : IsSettled net → (edge : Edge) → (sets : ℕ → SymbolicSet) × ArePossibleEach s.vars net (own_table edge.from).latches (symbolic_asked_on edge) sets
  own_sets_at settled edge = sets_exist net s.vars (own_table edge.from).latches (symbolic_asked_on edge) settled (own_long s net (at_vertex edge.from) (at_refs edge.from))

  pub own_sets : IsSettled net → Edge → ℕ → SymbolicSet
  own_sets settled edge = (own_sets_at settled edge).0

  pub own_possible : (settled : IsSettled net) (edges : List Edge) → All (λ edge. ArePossibleEach s.vars net (own_table edge.from).latches (symbolic_asked_on edge) (own_sets settled edge)) edges
  unfolding own_sets
  own_possible settled edges = λ k d l. (own_sets_at settled (get_or edges k d)).1

-- ---- one edge

abbrev pub ArePossibleOn : ℕ → RawNet → (ℕ → SymbolicState) → (Edge → ℕ → SymbolicSet) → List Edge → Type 0
ArePossibleOn vars net states sets edges = All (λ edge. ArePossibleEach vars net (states edge.from).latches (symbolic_asked_on edge) (sets edge)) edges

module _ (net : RawNet) (states : ℕ → SymbolicState) (sets : Edge → ℕ → SymbolicSet) (edges : List Edge) (table : List State) (s u : Store) (k : ℕ) (edge : Edge) (source : State) where
  -- the call, and what it leaves
  pub edge_built : (result : Result EdgeFound OpFault) → IsGood s → IsGood u → k < length edges → edge ≡ get_or edges k edge → edge.from < length table → source ≡ get_or table edge.from source → HasStates states (length table) s table → ArePossibleOn s.vars net states sets edges
      → ((r : Function) (ls : List SymbolicSet) (family : ℕ → SymbolicSet) → Means s r source.reached → AllZip (AreRails s) ls source.latches → ArePossibleEach s.vars net ls (symbolic_asked_on edge) family
      → Built (edge_work net edge (record { reached = r; latches = ls }) family) (IsEdgeFound net (record { reached = r; latches = ls }) family) s u result)
      → Built (edges_work net states sets edges) (IsEdgeFound net (states edge.from) (sets edge)) s u result
  edge_built result gs gu lt is inside is_source has possible call =
      let x : SymbolicState = states edge.from in
      let h : IsState s x source = subst (λ (r : State). IsState s x r) (sym is_source) (has.each edge.from source inside) in
      let family = subst (λ (e : Edge). ArePossibleEach s.vars net (states e.from).latches (symbolic_asked_on e) (sets e)) (sym is) (possible k edge lt) in
      let within : Within (edge_work net edge x (sets edge)) (edges_work net states sets edges) =
      λ f c. flat_has (λ (e : Edge). edge_work net e (states e.from) (sets e)) edges k edge lt f (subst (λ (e : Edge). Contains (edge_work net e (states e.from) (sets e)) f) is c) in
      Built-wider (edges_work net states sets edges) (edge_work net edge x (sets edge)) (IsEdgeFound net x (sets edge)) s u result within (call x.reached x.latches (sets edge) h.reached h.latches family)

  pub edge_given : (found : EdgeFound) → IsGood s → IsGood u → k < length edges → edge ≡ get_or edges k edge → edge.from < length table → source ≡ get_or table edge.from source → HasStates states (length table) s table → ArePossibleOn s.vars net states sets edges
      → Keeps s u → IsEdgeFound net (states edge.from) (sets edge) u found → IsGivenFrom u net edge source (record { reached = found.feasible; latches = found.next })
  edge_given found gs gu lt is inside is_source has possible keeps h =
      let x : SymbolicState = states edge.from in
      let old : IsState s x source = subst (λ (r : State). IsState s x r) (sym is_source) (has.each edge.from source inside) in
      let family = subst (λ (e : Edge). ArePossibleEach s.vars net (states e.from).latches (symbolic_asked_on e) (sets e)) (sym is) (possible k edge lt) in
      record {
        state = x;
        sets = sets edge;
        is_source = State-keeps s u x source gs gu keeps old;
        possible = subst (λ v. ArePossibleEach v net x.latches (symbolic_asked_on edge) (sets edge)) (sym keeps.vars) family;
        is_given = record { reached = h.feasible; latches = h.next };
      }
