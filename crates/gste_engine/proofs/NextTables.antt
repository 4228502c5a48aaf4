-- From the table of one round to that of the next, and from one that does not change to the one that settles.
use Rattle.std.proofs.Common.{◌≡◌, ℕ, suc, ◌<◌, Bool, false, List, [], ◌∷◌, length, get_or, map, replicate, refl, sym, ◌∙◌, ap, subst, arith, Result}
use Rattle.std.specs.List.{AllZip}
use Rattle.std.proofs.lemmas.List.{length-replicate}
use Rattle.ste_base.specs.Functions.{Function}
use Rattle.dd_nodes.specs.Stores.{Store, Keeps}
use Rattle.dd_nodes.proofs.Spending.{Means-same}
use Rattle.dd_nodes.proofs.Stores.{IsGood}
use Rattle.dd_ops.specs.declared.fault.OpFault.{OpFault}
use Rattle.net_core.specs.declared.bit_set.BitSet.{BitSet}
use Rattle.net_core.specs.declared.raw.RawNet.{RawNet}
use Rattle.net_core.specs.Possible.{ArePossible}
use Rattle.net_core.specs.Run.{Cut, IsSettled}
use Rattle.net_core.specs.Sets.{first_sets, neither, next_sets}
use Rattle.net_core.specs.Work.{SymbolicSet, cut_at, set_at}
use Rattle.ste_model.specs.declared.task.Bind.{Bind}
use Rattle.ste_model.specs.declared.task.Edge.{Edge}
use Rattle.ste_model.specs.declared.task.Graph.{Graph}
use Rattle.ste_model.specs.Edges.{IsGraph, bind_at, bind_cuts, weakened_on}
use Rattle.ste_model.specs.GraphNeed.{AreWholeRounds}
use Rattle.ste_model.specs.GraphTable.{IsLeastClosed, IsReachedWith, VertexState, enough}
use Rattle.ste_model.specs.GraphWork.{SymbolicState, state_at, symbolic_binds}
use Rattle.ste_model.proofs.Rounds.{below, long, same_least, settle_all, states_alike}
use Rattle.dual_rail.specs.declared.rails.Rails.{Rails}
use Rattle.dual_rail.specs.Rail.{AreRails, Built}
use Rattle.dual_rail.proofs.Works.{Built-good, SoFar}
use Rattle.gste_engine.specs.declared.rounds.Progress.{Progress}
use Rattle.gste_engine.specs.declared.state.State.{State}
use Rattle.gste_engine.specs.Tables.{HasStates, IsState, rounds_work}
use Rattle.gste_engine.specs.private.Rounds.{IsBetween, IsTurn, one_round_work}
use Rattle.gste_engine.specs.private.Sums.{summed_at}
use Rattle.gste_engine.proofs.AllGiven.{ArePossibleOn, given_of}
use Rattle.gste_engine.proofs.NextSums.{sums_next}
use Rattle.gste_engine.proofs.RoundParts.{round_in}
use Rattle.gste_engine.proofs.Turning.{turned}

-- ---- functions with the same values

abbrev first_of : List BitSet → BitSet
first_of [] = neither
first_of (set ∷ sets) = set

abbrev rest_of : List BitSet → List BitSet
rest_of [] = []
rest_of (set ∷ sets) = sets

abbrev HaveOneValue : Store → List SymbolicSet → List SymbolicSet → Type 0
HaveOneValue t ws xs = (bits : List Bool) → length bits ≡ t.vars → map (set_at bits) ws ≡ map (set_at bits) xs

zip_moves : (t : Store) (ws xs : List SymbolicSet) (rails : List Rails) → HaveOneValue t ws xs → AllZip (AreRails t) ws rails → AllZip (AreRails t) xs rails
zip_moves t [] [] rails same h = h
zip_moves t [] (x ∷ xs) rails same h = absurd (cc (same (replicate t.vars false) (length-replicate t.vars false)))
zip_moves t (w ∷ ws) [] rails same h = absurd (cc (same (replicate t.vars false) (length-replicate t.vars false)))
zip_moves t (w ∷ ws) (x ∷ xs) [] same h = absurd h
zip_moves t (w ∷ ws) (x ∷ xs) (r ∷ rs) same h = (
  record {
    zero = Means-same t w.zero x.zero r.can0 (λ bits l. ap (λ (sets : List BitSet). (first_of sets).zero) (same bits l)) h.0.zero;
    one = Means-same t w.one x.one r.can1 (λ bits l. ap (λ (sets : List BitSet). (first_of sets).one) (same bits l)) h.0.one;
  },
  zip_moves t ws xs rs (λ bits l. ap rest_of (same bits l)) h.1,
)

pub state_moves : (t : Store) (x y : SymbolicState) (r : State) → ((bits : List Bool) → length bits ≡ t.vars → state_at bits x ≡ state_at bits y) → IsState t x r → IsState t y r
state_moves t x y r same h = record {
  reached = Means-same t x.reached y.reached r.reached (λ bits l. ap (λ (state : VertexState). state.reached) (same bits l)) h.reached;
  latches = zip_moves t x.latches y.latches r.latches (λ bits l. ap (λ (state : VertexState). state.latches) (same bits l)) h.latches;
}

abbrev state_of : Bool → List BitSet → VertexState
state_of reached latches = record { reached = reached; latches = latches }

set_of_bits : (a b c d : Bool) → a ≡ c → b ≡ d → ◌≡◌ {A = BitSet} (record { zero = a; one = b }) (record { zero = c; one = d })
set_of_bits a b c d e f = cc

zips_alike : (t : Store) (bits : List Bool) → length bits ≡ t.vars → (ws xs : List SymbolicSet) (rails : List Rails) → AllZip (AreRails t) ws rails → AllZip (AreRails t) xs rails → map (set_at bits) ws ≡ map (set_at bits) xs
zips_alike t bits l [] [] rails h g = refl
zips_alike t bits l [] (x ∷ xs) [] h g = absurd g
zips_alike t bits l [] (x ∷ xs) (r ∷ rs) h g = absurd h
zips_alike t bits l (w ∷ ws) xs [] h g = absurd h
zips_alike t bits l (w ∷ ws) [] (r ∷ rs) h g = absurd g
zips_alike t bits l (w ∷ ws) (x ∷ xs) (r ∷ rs) h g =
    ap (λ (b : BitSet). b ∷ map (set_at bits) ws) (set_of_bits (w.zero bits) (w.one bits) (x.zero bits) (x.one bits) (sym (h.0.zero.value bits l) ∙ g.0.zero.value bits l) (sym (h.0.one.value bits l) ∙ g.0.one.value bits l))
    ∙ ap (λ (sets : List BitSet). set_at bits x ∷ sets) (zips_alike t bits l ws xs rs h.1 g.1)

-- two functions of one reference have the same values
pub one_state : (t : Store) (x y : SymbolicState) (r : State) (bits : List Bool) → length bits ≡ t.vars → IsState t x r → IsState t y r → state_at bits x ≡ state_at bits y
one_state t x y r bits l h g =
    ap (λ b. state_of b (map (set_at bits) x.latches)) (sym (h.reached.value bits l) ∙ g.reached.value bits l)
    ∙ ap (λ sets. state_of (y.reached bits) sets) (zips_alike t bits l x.latches y.latches r.latches h.latches g.latches)

-- ---- what is asked

asked_same : (bits : List Bool) (binds : List Bind) → map (cut_at bits) (symbolic_binds binds) ≡ bind_cuts binds bits
asked_same bits [] = refl
asked_same bits (bind ∷ binds) = ap (λ (cuts : List Cut). bind_at bits bind ∷ cuts) (asked_same bits binds)

module _ (net : RawNet) (vars : ℕ) (graph : Graph) (tables : ℕ → ℕ → SymbolicState) (sets : ℕ → Edge → ℕ → SymbolicSet) (whole : AreWholeRounds net vars graph tables sets) where
  pub possible_each : (n : ℕ) → ArePossibleOn vars net (tables n) (sets n) graph.edges
  possible_each n = λ k d l bits m.
      let edge = get_or graph.edges k d in
      subst (λ (cuts : List Cut). ArePossible net (state_at bits (tables n edge.from)).latches (record { cuts = cuts; weak = weakened_on edge }) (λ id. set_at bits (sets n edge id))) (sym (asked_same bits edge.ant)) (whole.possible bits m n k d l)

  module _ (settled : IsSettled net) where
    next_at : (bits : List Bool) → length bits ≡ vars → (n v : ℕ) → state_at bits (summed_at net graph.reset (given_of net (tables n) (sets n)) graph.edges v) ≡ state_at bits (tables (suc n) v)
    next_at bits l n v =
        let one = sums_next net bits graph settled (tables n) (sets n) (whole.possible bits l n) in
        let other = (whole.rounds bits l).next n in
        states_alike (state_at bits (summed_at net graph.reset (given_of net (tables n) (sets n)) graph.edges v)) (state_at bits (tables (suc n) v))
        (one.least (λ u. state_at bits (tables (suc n) u)) other.takes v)
        (other.least (λ u. state_at bits (summed_at net graph.reset (given_of net (tables n) (sets n)) graph.edges u)) one.takes v)

    pub states_next : (t : Store) (n : ℕ) (rs : List State) → t.vars ≡ vars → HasStates (summed_at net graph.reset (given_of net (tables n) (sets n)) graph.edges) (length graph.vertices) t rs → HasStates (tables (suc n)) (length graph.vertices) t rs
    states_next t n rs e h = record {
      long = h.long;
      each = λ v d lt. state_moves t (summed_at net graph.reset (given_of net (tables n) (sets n)) graph.edges v) (tables (suc n) v) (get_or rs v d) (λ bits l. next_at bits (l ∙ e) n v) (h.each v d lt);
    }

    -- a table that does not change is the least closed one
    least_here : IsGraph graph → (bits : List Bool) → length bits ≡ vars → (m : ℕ) → ((v : ℕ) → v < length graph.vertices → state_at bits (tables m v) ≡ state_at bits (tables (suc m) v)) → IsLeastClosed net graph bits (λ v. state_at bits (tables m v))
    least_here good bits l m same =
        let rounds : ℕ → ℕ → VertexState = λ n v. state_at bits (tables n v) in
        let are = whole.rounds bits l in
        let takes = (are.next m).takes in
        record {
          closed = record {
            long = λ v. long net graph bits settled rounds are m v;
            start = subst (IsReachedWith (first_sets net graph.reset)) (sym (same 0 good.some)) takes.start;
            edges = λ k d lt family f. let edge = get_or graph.edges k d in subst (IsReachedWith (next_sets net family)) (sym (same edge.to (good.ends k d lt))) (takes.edges k d lt family f);
          };
          least = λ other closed. below net graph bits settled rounds are other closed m;
        }

    pub early : IsGraph graph → (t : Store) (m : ℕ) (rs : List State) → t.vars ≡ vars → HasStates (tables m) (length graph.vertices) t rs → HasStates (tables (suc m)) (length graph.vertices) t rs → HasStates (tables (enough net graph)) (length graph.vertices) t rs
    early good t m rs e h next = record {
      long = h.long;
      each = λ v d lt. state_moves t (tables m v) (tables (enough net graph) v) (get_or rs v d) (λ bits l.
          let rounds : ℕ → ℕ → VertexState = λ n u. state_at bits (tables n u) in
          same_least net graph bits (rounds m) (rounds (enough net graph)) (least_here good bits (l ∙ e) m (λ u inside. one_state t (tables m u) (tables (suc m) u) (get_or rs u d) bits l (h.each u d (let n = h.long in omega (arith, n, inside))) (next.each u d (let n = h.long in omega (arith, n, inside)))))
          (settle_all net graph bits rounds settled good (whole.rounds bits (l ∙ e))) v) (h.each v d lt);
    }

-- ---- one more round

pub record RoundsSoFar (net : RawNet) (graph : Graph) (tables : ℕ → ℕ → SymbolicState) (sets : ℕ → Edge → ℕ → SymbolicSet) (s t : Store) (m : ℕ) (rs : List State) : Type 0 where
  pub so : SoFar (rounds_work net graph tables sets) s t
  pub has : HasStates (tables m) (length graph.vertices) t rs

-- what is promised of one round
abbrev pub GivesNext : RawNet → Graph → List State → Store → Store → Result Progress OpFault → Type 0
GivesNext net graph table t u result = (states : ℕ → SymbolicState) (sets : Edge → ℕ → SymbolicSet) → HasStates states (length graph.vertices) t table → ArePossibleOn t.vars net states sets graph.edges
    → Built (one_round_work net graph states sets) (IsTurn net graph states sets) t u result

-- the same of the round that it is
pub record IsTurnAt (net : RawNet) (graph : Graph) (tables : ℕ → ℕ → SymbolicState) (m : ℕ) (t : Store) (r : Progress) : Type 0 where
  pub between : IsBetween t net graph r
  pub has : HasStates (tables m) (length graph.vertices) t r.table.items

pub round_turn : (net : RawNet) (graph : Graph) (tables : ℕ → ℕ → SymbolicState) (sets : ℕ → Edge → ℕ → SymbolicSet) (s t u : Store) (m : ℕ) (table : List State) (result : Result Progress OpFault) → IsSettled net → IsGood t → IsGood u → AreWholeRounds net s.vars graph tables sets → m < suc (enough net graph)
    → Keeps s t → RoundsSoFar net graph tables sets s t m table → GivesNext net graph table t u result → Built (rounds_work net graph tables sets) (IsTurnAt net graph tables (suc m)) s u result
round_turn net graph tables sets s t u m table result settled gt gu whole lt keeps p call =
    let work : List Function = rounds_work net graph tables sets in
    let Good : Store → Progress → Type 0 = IsTurn net graph (tables m) (sets m) in
    let here : ArePossibleOn t.vars net (tables m) (sets m) graph.edges = subst (λ v. ArePossibleOn v net (tables m) (sets m) graph.edges) (sym keeps.vars) (possible_each net s.vars graph tables sets whole m) in
    let b : Built work Good s u result = turned work (one_round_work net graph (tables m) (sets m)) Good s t u result gt gu (round_in net graph tables sets m lt) p.so (call (tables m) (sets m) p.has here) in
    Built-good work Good (IsTurnAt net graph tables (suc m)) s u result (λ turn h. record { between = h.between; has = states_next net s.vars graph tables sets whole settled u m turn.table.items b.spends.keeps.vars h.has }) b
