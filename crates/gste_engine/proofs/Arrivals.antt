-- One edge after another is summed.
use Rattle.std.proofs.Common.{◌≡◌, ◌≢◌, ℕ, zero, suc, ◌+◌, ◌-◌, ◌<◌, ◌≤◌, Bool, List, [], ◌∷◌, length, take, get_or, map, replicate, ne_eqb, ◌++◌, sym, ◌∙◌, ap, subst, arith, Result, All}
use Rattle.std.specs.List.{AllZip}
use Rattle.std.specs.Prelude.{if◌then◌else◌}
use Rattle.std.proofs.lemmas.List.{get_or-replicate, get_or-set_other, get_or-set_same, length-map, length-replicate, length-set}
use Rattle.dd_nodes.specs.Stores.{Store, Keeps}
use Rattle.dd_nodes.proofs.Spending.{one_means, zero_means}
use Rattle.dd_nodes.proofs.Stores.{IsGood}
use Rattle.dd_ops.specs.declared.fault.OpFault.{OpFault}
use Rattle.net_core.specs.declared.raw.Latch.{Latch}
use Rattle.net_core.specs.declared.raw.RawNet.{RawNet}
use Rattle.net_core.specs.Sets.{first_set}
use Rattle.net_core.specs.Work.{SymbolicSet}
use Rattle.engine_parts.proofs.FirstSets.{firsts_are}
use Rattle.engine_parts.specs.Latches.{first_rails}
use Rattle.ste_model.specs.declared.task.Edge.{Edge}
use Rattle.ste_model.specs.declared.task.Graph.{Graph}
use Rattle.ste_model.specs.GraphWork.{SymbolicState, start_state}
use Rattle.ste_model.specs.Work.{constant_set}
use Rattle.dual_rail.specs.Rail.{AreRails, Built}
use Rattle.dual_rail.proofs.Turns.{zip_at, zip_long}
use Rattle.dual_rail.proofs.Works.{SoFar, Within}
use Rattle.gste_engine.specs.declared.state.State.{State}
use Rattle.gste_engine.specs.Tables.{AreStateRefs, IsState}
use Rattle.gste_engine.specs.declared.links.End.TheVariants.{To}
use Rattle.gste_engine.specs.private.Links.{IsNextAt}
use Rattle.gste_engine.specs.private.Sums.{arrivals_work, first_table, first_state, coming, never_state, no_rails, state_functions, summed_at, unreached, with_state, with_states}
use Rattle.gste_engine.proofs.Comings.{IsLong, arrival_in, coming_other, coming_this, with_states_push}
use Rattle.gste_engine.proofs.Sets.{no_set, unions_none}
use Rattle.gste_engine.proofs.StateRefs.{State-keeps, state_long, state_refs}
use Rattle.gste_engine.proofs.Turning.{turned}

pub record SummedSoFar (net : RawNet) (graph : Graph) (given : Edge → SymbolicState) (s t : Store) (vertex k : ℕ) (sum : State) : Type 0 where
  pub so : SoFar (arrivals_work net graph given) s t
  pub fit : IsState t (summed_at net graph.reset given (take k graph.edges) vertex) sum

-- ---- the start

abbrev AreNone : Store → List Latch → Type 0
AreNone t latches = AllZip (AreRails t) (map (λ latch. no_set) latches) (map (λ latch. no_rails) latches)

none_are : (t : Store) (latches : List Latch) → IsGood t → AreNone t latches
none_are t [] d = tt
none_are t (x ∷ xs) d = (record { zero = zero_means t d; one = zero_means t d }, none_are t xs d)

pub never_is : (t : Store) (net : RawNet) → IsGood t → IsState t (never_state net) (unreached net)
never_is t net d = record { reached = zero_means t d; latches = none_are t net.latches d }

starts_at : (t : Store) (net : RawNet) (reset : Bool) → IsGood t → IsState t (summed_at net reset (λ edge. never_state net) [] 0) (record { reached = record { 0 = 1 }; latches = map (first_rails reset) net.latches })
starts_at t net reset d = record {
  reached = one_means t d;
  latches = subst (λ (ws : List SymbolicSet). AllZip (AreRails t) ws (map (first_rails reset) net.latches)) (sym (unions_none (λ latch. constant_set (first_set reset latch)) net.latches)) (firsts_are t reset net.latches d);
}

summed_later : (net : RawNet) (reset : Bool) (given : Edge → SymbolicState) (v : ℕ) → summed_at net reset given [] (suc v) ≡ never_state net
summed_later net reset given v = ap (λ (b : Bool). with_states (never_state net) ((if b then start_state net reset ∷ [] else []) ++ [])) (ne_eqb (suc v) 0 (λ e. omega (arith, e)))

pub first_state_is : (net : RawNet) (reset : Bool) (given : Edge → SymbolicState) (t : Store) (vertex : ℕ) → IsGood t → IsState t (summed_at net reset given [] vertex) (first_state net reset vertex)
first_state_is net reset given t zero gt = starts_at t net reset gt
first_state_is net reset given t (suc v) gt = subst (λ (x : SymbolicState). IsState t x (unreached net)) (sym (summed_later net reset given v)) (never_is t net gt)

pub first_table_get : (net : RawNet) (reset : Bool) (vertices vertex : ℕ) (d : State) → vertex < vertices → get_or (first_table net reset vertices) vertex d ≡ first_state net reset vertex
first_table_get net reset vertices zero d lt =
    let many : List State = replicate vertices (unreached net) in
    get_or-set_same many 0 (first_state net reset 0) d (let n = length-replicate vertices (unreached net) in omega (arith, n, lt))
first_table_get net reset vertices (suc v) d lt =
    let many : List State = replicate vertices (unreached net) in
    get_or-set_other many 0 (suc v) (first_state net reset 0) d (λ e. omega (arith, e)) ∙ get_or-replicate vertices (suc v) (unreached net) d lt

pub first_table_long : (net : RawNet) (reset : Bool) (vertices : ℕ) → length (first_table net reset vertices) ≡ vertices
first_table_long net reset vertices = length-set (replicate vertices (unreached net)) 0 (record { reached = record { 0 = 1 }; latches = map (first_rails reset) net.latches }) ∙ length-replicate vertices (unreached net)

abbrev pub no_state : State
no_state = record { reached = record { 0 = 0 }; latches = [] }

summed_long : (net : RawNet) (reset : Bool) (v : ℕ) → IsLong net (summed_at net reset (λ edge. never_state net) [] v)
summed_long net reset zero = ap (λ (ws : List SymbolicSet). length ws) (unions_none (λ latch. constant_set (first_set reset latch)) net.latches) ∙ length-map net.latches (λ latch. constant_set (first_set reset latch))
summed_long net reset (suc v) = ap (λ (x : SymbolicState). length x.latches) (summed_later net reset (λ edge. never_state net) v) ∙ length-map net.latches (λ latch. no_set)

pub first_table_refs : (net : RawNet) (reset : Bool) (vertices : ℕ) (t : Store) → IsGood t → All (AreStateRefs t net) (first_table net reset vertices)
first_table_refs net reset vertices t gt = λ v d lt.
    let n = first_table_long net reset vertices in
    let l : v < vertices = omega (arith, n, lt) in
    subst (AreStateRefs t net) (sym (first_table_get net reset vertices v d l))
    (state_refs t net (summed_at net reset (λ edge. never_state net) [] v) (first_state net reset v) (summed_long net reset v) (first_state_is net reset (λ edge. never_state net) t v gt))

pub first_state_refs : (net : RawNet) (reset : Bool) (vertex : ℕ) (t : Store) → IsGood t → AreStateRefs t net (first_state net reset vertex)
first_state_refs net reset vertex t gt = state_refs t net (summed_at net reset (λ edge. never_state net) [] vertex) (first_state net reset vertex) (summed_long net reset vertex) (first_state_is net reset (λ edge. never_state net) t vertex gt)

-- ---- edges that lead elsewhere

abbrev pub no_edge : Edge
no_edge = record { from = 0; to = 0; ant = []; con = []; weak = [] }

skip : (net : RawNet) (reset : Bool) (given : Edge → SymbolicState) (edges : List Edge) (vertex m n : ℕ) → m + n ≤ length edges → ((i : ℕ) (d : Edge) → m ≤ i → i < m + n → (get_or edges i d).to ≢ vertex)
    → coming net reset given (take (m + n) edges) vertex ≡ coming net reset given (take m edges) vertex
skip net reset given edges vertex m zero most none = ap (λ (k : ℕ). coming net reset given (take k edges) vertex) (let e : m + 0 ≡ m = omega arith in e)
skip net reset given edges vertex m (suc n) most none =
    ap (λ (k : ℕ). coming net reset given (take k edges) vertex) (let e : m + suc n ≡ (m + n) + 1 = omega arith in e)
    ∙ coming_other given vertex net reset edges (m + n) no_edge (omega (arith, most)) (none (m + n) no_edge (omega arith) (omega arith))
    ∙ skip net reset given edges vertex m n (omega (arith, most)) (λ i d le lt. none i d le (omega (arith, lt)))

pub sum_skips : (net : RawNet) (reset : Bool) (given : Edge → SymbolicState) (edges : List Edge) (vertex m k : ℕ) → IsNextAt To edges vertex m k → summed_at net reset given (take k edges) vertex ≡ summed_at net reset given (take m edges) vertex
sum_skips net reset given edges vertex m k h =
    let low = h.low in
    let most = h.most in
    let is : k ≡ m + (k - m) = omega (arith, low) in
    ap (λ (xs : List SymbolicState). with_states (never_state net) xs)
    (ap (λ (j : ℕ). coming net reset given (take j edges) vertex) is
    ∙ skip net reset given edges vertex m (k - m) (omega (arith, low, most)) (λ i d le lt. h.none i d le (omega (arith, low, lt))))

-- ---- one more edge

module _ (net : RawNet) (graph : Graph) (given : Edge → SymbolicState) (s t u : Store) (vertex k : ℕ) (d : Edge) (sum more : State) (givens : List State) (gs : IsGood s) (gt : IsGood t) (gu : IsGood u) (lt : k < length graph.edges) (inside : vertex < length graph.vertices) (here : (get_or graph.edges k d).to ≡ vertex) (zip : AllZip (λ edge r. IsState s (given edge) r) graph.edges givens) (refs : All (AreStateRefs s net) givens) (keeps : Keeps s t) (p : SummedSoFar net graph given s t vertex k sum) where
  abbrev edge : Edge
  edge = get_or graph.edges k d

  abbrev pub now_at : SymbolicState
  now_at = with_state (summed_at net graph.reset given (take k graph.edges) vertex) (given (get_or graph.edges k d))

  longs : All (λ e. IsLong net (given e)) graph.edges
  longs i e l =
      let n = zip_long (λ (edge : Edge) (r : State). IsState s (given edge) r) graph.edges givens zip in
      state_long s net (given (get_or graph.edges i e)) (get_or givens i no_state) (refs i no_state (omega (arith, n, l))) (zip_at (λ (edge : Edge) (r : State). IsState s (given edge) r) graph.edges givens i e no_state zip (omega (arith, n, l)))

  turn_in : Within (state_functions now_at) (arrivals_work net graph given)
  turn_in = subst (λ (v : ℕ). Within (state_functions (with_state (summed_at net graph.reset given (take k graph.edges) v) (given edge))) (arrivals_work net graph given)) here
      (arrival_in net graph given k d lt (subst (λ (v : ℕ). v < length graph.vertices) (sym here) inside) longs)

  pub sum_turn : more ≡ get_or givens k more → (result : Result State OpFault)
      → ((x y : SymbolicState) → IsState t x sum → IsState t y more → Built (state_functions (with_state x y)) (λ t r. IsState t (with_state x y) r) t u result)
      → Built (arrivals_work net graph given) (λ t r. IsState t now_at r) s u result
  sum_turn is_more result call =
      let x : SymbolicState = summed_at net graph.reset given (take k graph.edges) vertex in
      let y : SymbolicState = given edge in
      let n = zip_long (λ (edge : Edge) (r : State). IsState s (given edge) r) graph.edges givens zip in
      let hy : IsState s y more = subst (λ (r : State). IsState s y r) (sym is_more) (zip_at (λ (edge : Edge) (r : State). IsState s (given edge) r) graph.edges givens k d more zip (omega (arith, n, lt))) in
      turned (arrivals_work net graph given) (state_functions (with_state x y)) (λ t r. IsState t (with_state x y) r) s t u result gt gu turn_in p.so
      (call x y p.fit (State-keeps s t y more gs gt keeps hy))

  pub sum_fit : (after : State) (next : ℕ) → IsNextAt To graph.edges vertex (k + 1) next → IsState u now_at after → IsState u (summed_at net graph.reset given (take next graph.edges) vertex) after
  sum_fit after next h is =
      let pre : List SymbolicState = coming net graph.reset given (take k graph.edges) vertex in
      let this : summed_at net graph.reset given (take (k + 1) graph.edges) vertex ≡ now_at =
      ap (λ (xs : List SymbolicState). with_states (never_state net) xs) (coming_this given vertex net graph.reset graph.edges k d lt here) ∙ with_states_push (never_state net) pre (given edge) in
      subst (λ (x : SymbolicState). IsState u x after) (sym (sum_skips net graph.reset given graph.edges vertex (k + 1) next h ∙ this)) is
