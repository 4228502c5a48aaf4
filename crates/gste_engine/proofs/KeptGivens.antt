-- What an edge gives stays where the references of its source stay.
use Rattle.std.proofs.Common.{◌≡◌, ℕ, suc, ◌<◌, Bool, false, not, List, [], ◌∷◌, length, get_or, map, replicate, refl, sym, ◌∙◌, ap, subst, arith}
use Rattle.std.specs.List.{AllZip}
use Rattle.std.specs.Prelude.{◌&&◌}
use Rattle.std.proofs.lemmas.List.{get_or-replicate, length-replicate}
use Rattle.dd_nodes.specs.Stores.{Store, Keeps}
use Rattle.dd_nodes.proofs.Stores.{IsGood}
use Rattle.net_core.specs.declared.bit_set.BitSet.{BitSet}
use Rattle.net_core.specs.declared.raw.Latch.{Latch}
use Rattle.net_core.specs.declared.raw.RawNet.{RawNet}
use Rattle.net_core.specs.Possible.{ArePossible}
use Rattle.net_core.specs.Run.{IsSettled}
use Rattle.ste_base.specs.Functions.{Function}
use Rattle.net_core.specs.Work.{ArePossibleEach, SymbolicSet, asked_under, set_at, some_empty}
use Rattle.net_core.proofs.Possible.{one_family}
use Rattle.ste_model.specs.declared.task.Edge.{Edge}
use Rattle.ste_model.specs.declared.task.Graph.{Graph}
use Rattle.ste_model.specs.GraphTable.{VertexState}
use Rattle.ste_model.specs.GraphWork.{SymbolicState, feasible_where, gated_set, given_by, state_at, symbolic_asked_on}
use Rattle.ste_model.proofs.Alike.{SameFamily, empty_same}
use Rattle.sym_step.proofs.Whole.{sets_exist}
use Rattle.gste_engine.specs.declared.state.State.{State}
use Rattle.gste_engine.specs.Tables.{AreEdgesOver, HasStates, IsState}
use Rattle.gste_engine.specs.private.Rounds.{AreGivenFrom, IsGivenFrom}
use Rattle.gste_engine.specs.private.Sums.{never_state, unreached}
use Rattle.gste_engine.proofs.AllGiven.{ArePossibleOn, given_of}
use Rattle.gste_engine.proofs.Arrivals.{never_is}
use Rattle.gste_engine.proofs.Comings.{never_long}
use Rattle.gste_engine.proofs.NextSums.{nevers_here, none_given}
use Rattle.gste_engine.proofs.NextTables.{one_state, state_moves}
use Rattle.gste_engine.proofs.StateRefs.{State-keeps}

-- ---- one edge

abbrev gate : BitSet → Bool → BitSet
gate b x = record { zero = b.zero && x; one = b.one && x }

abbrev state_of : Bool → List BitSet → VertexState
state_of reached latches = record { reached = reached; latches = latches }

gated_at : (bits : List Bool) (f h : Function) (ws vs : ℕ → SymbolicSet) → f bits ≡ h bits → ((id : ℕ) → set_at bits (ws id) ≡ set_at bits (vs id)) → (latches : List Latch)
    → map (set_at bits) (map (λ latch. gated_set (ws latch.input.0) f) latches) ≡ map (set_at bits) (map (λ latch. gated_set (vs latch.input.0) h) latches)
gated_at bits f h ws vs e same [] = refl
gated_at bits f h ws vs e same (l ∷ ls) =
    let i = l.input.0 in
    ap (λ (xs : List BitSet). gate (set_at bits (ws i)) (f bits) ∷ xs) (gated_at bits f h ws vs e same ls)
    ∙ ap (λ (b : BitSet). gate b (f bits) ∷ map (set_at bits) (map (λ latch. gated_set (vs latch.input.0) h) ls)) (same i)
    ∙ ap (λ (x : Bool). gate (set_at bits (vs i)) x ∷ map (set_at bits) (map (λ latch. gated_set (vs latch.input.0) h) ls)) e

module _ (t : Store) (net : RawNet) (edge : Edge) (source given : State) (settled : IsSettled net) (p : IsGivenFrom t net edge source given) (y : SymbolicState) (vs : ℕ → SymbolicSet) (hy : IsState t y source) (possible : ArePossibleEach t.vars net y.latches (symbolic_asked_on edge) vs) where
  state_same : (bits : List Bool) → length bits ≡ t.vars → state_at bits p.state ≡ state_at bits y
  state_same bits l = one_state t p.state y source bits l p.is_source hy

  sets_same : (bits : List Bool) → length bits ≡ t.vars → (id : ℕ) → set_at bits (p.sets id) ≡ set_at bits (vs id)
  sets_same bits l id =
      one_family net (map (set_at bits) p.state.latches) (asked_under bits (symbolic_asked_on edge)) settled (λ i. set_at bits (p.sets i)) (λ i. set_at bits (vs i)) (p.possible bits l)
      (subst (λ (state : VertexState). ArePossible net state.latches (asked_under bits (symbolic_asked_on edge)) (λ i. set_at bits (vs i))) (sym (state_same bits l)) (possible bits l)) id

  family : SameFamily t.vars p.sets vs
  family id = record {
    zero = record { at = λ bits l. ap (λ (b : BitSet). b.zero) (sets_same bits l id) };
    one = record { at = λ bits l. ap (λ (b : BitSet). b.one) (sets_same bits l id) };
  }

  feasible_same : (bits : List Bool) → length bits ≡ t.vars → feasible_where net p.state p.sets bits ≡ feasible_where net y vs bits
  feasible_same bits l =
      ap (λ (b : Bool). b && not (some_empty net p.sets bits)) (ap (λ (state : VertexState). state.reached) (state_same bits l))
      ∙ ap (λ (b : Bool). y.reached bits && not b) ((empty_same net p.sets vs family).at bits l)

  given_same : (bits : List Bool) → length bits ≡ t.vars → state_at bits (given_by net p.state p.sets) ≡ state_at bits (given_by net y vs)
  given_same bits l =
      ap (λ (b : Bool). state_of b (map (set_at bits) (given_by net p.state p.sets).latches)) (feasible_same bits l)
      ∙ ap (λ (xs : List BitSet). state_of (feasible_where net y vs bits) xs) (gated_at bits (feasible_where net p.state p.sets) (feasible_where net y vs) p.sets vs (feasible_same bits l) (sets_same bits l) net.latches)

  -- whatever the functions of its source and its sets are
  pub given_stays : IsState t (given_by net y vs) given
  given_stays = state_moves t (given_by net p.state p.sets) (given_by net y vs) given given_same p.is_given

pub From-keeps : (s t : Store) (net : RawNet) (edge : Edge) (source given : State) → IsGood s → IsGood t → Keeps s t → IsGivenFrom s net edge source given → IsGivenFrom t net edge source given
From-keeps s t net edge source given gs gt keeps p = record {
  state = p.state;
  sets = p.sets;
  is_source = State-keeps s t p.state source gs gt keeps p.is_source;
  possible = subst (λ v. ArePossibleEach v net p.state.latches (symbolic_asked_on edge) p.sets) (sym keeps.vars) p.possible;
  is_given = State-keeps s t (given_by net p.state p.sets) given gs gt keeps p.is_given;
}

-- nothing is given where nothing is reached
pub never_given : (t : Store) (net : RawNet) (edge : Edge) → IsSettled net → IsGood t → IsGivenFrom t net edge (unreached net) (unreached net)
never_given t net edge settled gt =
    let some = sets_exist net t.vars (never_state net).latches (symbolic_asked_on edge) settled (never_long net) in
    record {
      state = never_state net;
      sets = some.0;
      is_source = never_is t net gt;
      possible = some.1;
      is_given = state_moves t (never_state net) (given_by net (never_state net) some.0) (unreached net)
          (λ bits l. ap (λ (xs : List BitSet). state_of false xs) (nevers_here net bits net.latches ∙ sym (none_given net bits (feasible_where net (never_state net) some.0) some.0 net.latches refl)))
          (never_is t net gt);
    }

-- ---- all edges

pub Givens-keep : (s t : Store) (net : RawNet) (edges : List Edge) (table givens : List State) → IsGood s → IsGood t → Keeps s t → AreGivenFrom s net edges table givens → AreGivenFrom t net edges table givens
Givens-keep s t net edges table givens gs gt keeps p = record {
  long = p.long;
  each = λ k d e f lt. From-keeps s t net (get_or edges k d) (get_or table (get_or edges k d).from e) (get_or givens k f) gs gt keeps (p.each k d e f lt);
}

-- at the start
pub starts_given : (t : Store) (net : RawNet) (graph : Graph) (table givens : List State) → IsSettled net → IsGood t → ((k : ℕ) (d : Edge) → k < length graph.edges → (get_or graph.edges k d).from < length graph.vertices)
    → table ≡ replicate (length graph.vertices) (unreached net) → givens ≡ replicate (length graph.edges) (unreached net) → AreGivenFrom t net graph.edges table givens
starts_given t net graph table givens settled gt inside is also = record {
  long = ap (λ (xs : List State). length xs) also ∙ length-replicate (length graph.edges) (unreached net);
  each = λ k d e f lt.
      let edge = get_or graph.edges k d in
      let source : get_or table edge.from e ≡ unreached net = ap (λ (xs : List State). get_or xs edge.from e) is ∙ get_or-replicate (length graph.vertices) edge.from (unreached net) e (inside k d lt) in
      let given : get_or givens k f ≡ unreached net = ap (λ (xs : List State). get_or xs k f) also ∙ get_or-replicate (length graph.edges) k (unreached net) f lt in
      subst (λ (x : State). IsGivenFrom t net edge x (get_or givens k f)) (sym source) (subst (λ (x : State). IsGivenFrom t net edge (unreached net) x) (sym given) (never_given t net edge settled gt));
}

-- by functions
zip_from : {X Y : Type 0} (R : X → Y → Type 0) (xs : List X) (ys : List Y) → length ys ≡ length xs → ((k : ℕ) (d : X) (f : Y) → k < length xs → R (get_or xs k d) (get_or ys k f)) → AllZip R xs ys
zip_from R [] [] long h = tt
zip_from R [] (y ∷ ys) long h = absurd (omega (arith, long))
zip_from R (x ∷ xs) [] long h = absurd (omega (arith, long))
zip_from R (x ∷ xs) (y ∷ ys) long h = (h 0 x y (omega arith), zip_from R xs ys (omega (arith, long)) (λ k d f lt. h (suc k) d f (omega (arith, lt))))

pub givens_zip : (t : Store) (net : RawNet) (edges : List Edge) (table givens : List State) (states : ℕ → SymbolicState) (sets : Edge → ℕ → SymbolicSet) → IsSettled net → AreEdgesOver net t.vars (length table) edges → HasStates states (length table) t table → ArePossibleOn t.vars net states sets edges → AreGivenFrom t net edges table givens
    → AllZip (λ edge r. IsState t (given_of net states sets edge) r) edges givens
givens_zip t net edges table givens states sets settled over has possible p = zip_from (λ (edge : Edge) (r : State). IsState t (given_of net states sets edge) r) edges givens p.long (λ k d f lt.
    let edge = get_or edges k d in
    given_stays t net edge (get_or table edge.from f) (get_or givens k f) settled (p.each k d f f lt) (states edge.from) (sets edge) (has.each edge.from f (over k d lt).start) (possible k d lt))
