-- The sum of what comes to a vertex stays where the references of what the edges into it give stay.
use Rattle.std.proofs.Common.{◌≡◌, ℕ, suc, ◌<◌, Bool, true, false, List, [], ◌∷◌, ◌++◌, length, get_or, map, filter, refl, sym, ◌∙◌, ap, subst, arith}
use Rattle.std.specs.Prelude.{◌==◌, ◌||◌, if◌then◌else◌}
use Rattle.std.specs.List.{AllZip}
use Rattle.std.proofs.lemmas.Bool.{eqb-true}
use Rattle.dd_nodes.specs.Stores.{Store, Keeps}
use Rattle.dd_nodes.proofs.Stores.{IsGood}
use Rattle.dual_rail.proofs.Turns.{zip_at, zip_long}
use Rattle.net_core.specs.declared.bit_set.BitSet.{BitSet}
use Rattle.net_core.specs.declared.raw.RawNet.{RawNet}
use Rattle.ste_model.specs.declared.task.Edge.{Edge}
use Rattle.ste_model.specs.declared.task.Graph.{Graph}
use Rattle.ste_model.specs.GraphTable.{VertexState}
use Rattle.ste_model.specs.GraphWork.{SymbolicState, start_state, state_at}
use Rattle.ste_model.proofs.Unions.{join_sets}
use Rattle.gste_engine.specs.declared.state.State.{State}
use Rattle.gste_engine.specs.Tables.{IsState}
use Rattle.gste_engine.specs.private.Sums.{IsSumOf, never_state, summed_at, with_state, with_states}
use Rattle.gste_engine.proofs.Comings.{into}
use Rattle.gste_engine.proofs.NextSums.{unions_here}
use Rattle.gste_engine.proofs.NextTables.{one_state, state_moves}
use Rattle.gste_engine.proofs.StateRefs.{State-keeps}

-- ---- under one assignment

abbrev joined : VertexState → VertexState → VertexState
joined a b = record { reached = a.reached || b.reached; latches = join_sets a.latches b.latches }

abbrev state_of : Bool → List BitSet → VertexState
state_of reached latches = record { reached = reached; latches = latches }

module _ (net : RawNet) (bits : List Bool) where
  pub with_here : (x y : SymbolicState) → state_at bits (with_state x y) ≡ joined (state_at bits x) (state_at bits y)
  with_here x y = ap (λ (sets : List BitSet). state_of (x.reached bits || y.reached bits) sets) (unions_here net bits x.latches y.latches)

  with_same : (x y z w : SymbolicState) → state_at bits x ≡ state_at bits y → state_at bits z ≡ state_at bits w → state_at bits (with_state x z) ≡ state_at bits (with_state y w)
  with_same x y z w e f = with_here x z ∙ ap (λ (a : VertexState). joined a (state_at bits z)) e ∙ ap (λ (b : VertexState). joined (state_at bits y) b) f ∙ sym (with_here y w)

  module _ (one other : Edge → SymbolicState) (vertex : ℕ) where
    -- the same comes from edges into the vertex
    abbrev Same : List Edge → Type 0
    Same edges = (k : ℕ) (d : Edge) → k < length edges → (get_or edges k d).to ≡ vertex → state_at bits (one (get_or edges k d)) ≡ state_at bits (other (get_or edges k d))

    into_same : (x y : SymbolicState) (edges : List Edge) → state_at bits x ≡ state_at bits y → Same edges → state_at bits (with_states x (into one vertex edges)) ≡ state_at bits (with_states y (into other vertex edges))
    into_same x y [] e same = e
    into_same x y (edge ∷ edges) e same = by (edge.to == vertex) refl (λ f. into_same (with_state x (one edge)) (with_state y (other edge)) edges f rest) (into_same x y edges e rest)
      where
        rest : Same edges
        rest k d l to = same (suc k) d (omega (arith, l)) to

        by : (b : Bool) → (edge.to == vertex) ≡ b
            → (state_at bits (with_state x (one edge)) ≡ state_at bits (with_state y (other edge)) → state_at bits (with_states (with_state x (one edge)) (into one vertex edges)) ≡ state_at bits (with_states (with_state y (other edge)) (into other vertex edges)))
            → state_at bits (with_states x (into one vertex edges)) ≡ state_at bits (with_states y (into other vertex edges))
            → state_at bits (with_states x (map one (if b then edge ∷ filter (λ (e : Edge). e.to == vertex) edges else filter (λ (e : Edge). e.to == vertex) edges)))
            ≡ state_at bits (with_states y (map other (if b then edge ∷ filter (λ (e : Edge). e.to == vertex) edges else filter (λ (e : Edge). e.to == vertex) edges)))
        by true is this none = this (with_same x y (one edge) (other edge) e (same 0 edge (omega arith) (eqb-true edge.to vertex is)))
        by false is this none = none

    pub sums_same : (reset : Bool) (edges : List Edge) → Same edges → state_at bits (summed_at net reset one edges vertex) ≡ state_at bits (summed_at net reset other edges vertex)
    sums_same reset edges same = by (vertex == 0)
      where
        by : (b : Bool) → state_at bits (with_states (never_state net) ((if b then start_state net reset ∷ [] else []) ++ into one vertex edges))
            ≡ state_at bits (with_states (never_state net) ((if b then start_state net reset ∷ [] else []) ++ into other vertex edges))
        by true = into_same (with_state (never_state net) (start_state net reset)) (with_state (never_state net) (start_state net reset)) edges refl same
        by false = into_same (never_state net) (never_state net) edges refl same

-- ---- by references

-- whatever the functions are of what the edges into it give
pub sum_stays : (t : Store) (net : RawNet) (graph : Graph) (givens : List State) (vertex : ℕ) (r : State) (given : Edge → SymbolicState) → IsSumOf t net graph givens vertex r → AllZip (λ edge g. IsState t (given edge) g) graph.edges givens → IsState t (summed_at net graph.reset given graph.edges vertex) r
sum_stays t net graph givens vertex r given p zip = state_moves t (summed_at net graph.reset p.given graph.edges vertex) (summed_at net graph.reset given graph.edges vertex) r
    (λ bits l. sums_same net bits p.given given vertex graph.reset graph.edges (λ k d lt to.
    let edge = get_or graph.edges k d in
    let n = zip_long (λ (e : Edge) (g : State). IsState t (given e) g) graph.edges givens zip in
    one_state t (p.given edge) (given edge) (get_or givens k r) bits l (p.are k d r lt to) (zip_at (λ (e : Edge) (g : State). IsState t (given e) g) graph.edges givens k d r zip (omega (arith, n, lt)))))
    p.sum

-- what is held stays
pub Sum-keeps : (s t : Store) (net : RawNet) (graph : Graph) (givens : List State) (vertex : ℕ) (r : State) → IsGood s → IsGood t → Keeps s t → IsSumOf s net graph givens vertex r → IsSumOf t net graph givens vertex r
Sum-keeps s t net graph givens vertex r gs gt keeps p = record {
  given = p.given;
  are = λ k d f lt to. State-keeps s t (p.given (get_or graph.edges k d)) (get_or givens k f) gs gt keeps (p.are k d f lt to);
  sum = State-keeps s t (summed_at net graph.reset p.given graph.edges vertex) r gs gt keeps p.sum;
}

-- where the edges into the vertex give the same
pub sum_moves : (t : Store) (net : RawNet) (graph : Graph) (old new : List State) (vertex : ℕ) (r : State) → ((k : ℕ) (d : Edge) (f : State) → k < length graph.edges → (get_or graph.edges k d).to ≡ vertex → get_or new k f ≡ get_or old k f) → IsSumOf t net graph old vertex r → IsSumOf t net graph new vertex r
sum_moves t net graph old new vertex r same p = record {
  given = p.given;
  are = λ k d f lt to. subst (λ (x : State). IsState t (p.given (get_or graph.edges k d)) x) (sym (same k d f lt to)) (p.are k d f lt to);
  sum = p.sum;
}

-- what is made anew
pub sum_made : (t : Store) (net : RawNet) (graph : Graph) (givens : List State) (vertex : ℕ) (r : State) (given : Edge → SymbolicState) → AllZip (λ edge g. IsState t (given edge) g) graph.edges givens → IsState t (summed_at net graph.reset given graph.edges vertex) r → IsSumOf t net graph givens vertex r
sum_made t net graph givens vertex r given zip is = record {
  given = given;
  are = λ k d f lt to.
      let n = zip_long (λ (e : Edge) (g : State). IsState t (given e) g) graph.edges givens zip in
      zip_at (λ (e : Edge) (g : State). IsState t (given e) g) graph.edges givens k d f zip (omega (arith, n, lt));
  sum = is;
}
