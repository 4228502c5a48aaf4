-- There is exactly one need of a graph: the work functions have the same values on tables and sets that have the same values.
use Rattle.std.proofs.Common.{◌≡◌, ℕ, ◌<◌, zero, suc, Bool, true, false, List, [], ◌∷◌, ◌++◌, map, filter, length, get_or, arith, refl, sym, subst, ◌∙◌, ap}
use Rattle.std.specs.Prelude.{◌==◌, All, if◌then◌else◌, replicate, slice_index_or}
use Rattle.std.specs.List.{flat_map}
use Rattle.std.proofs.lemmas.List.{length-replicate}
use Rattle.std.proofs.lemmas.List.Elements.{All-head, All-tail}
use Rattle.dd_nodes.specs.Functions.{node_count}
use Rattle.net_core.specs.declared.bit_set.BitSet.{BitSet}
use Rattle.net_core.specs.declared.raw.Latch.{Latch}
use Rattle.net_core.specs.declared.raw.RawNet.{RawNet}
use Rattle.net_core.specs.Possible.{ArePossible}
use Rattle.net_core.specs.Run.{IsSettled}
use Rattle.net_core.specs.Sets.{neither}
use Rattle.ste_base.specs.Functions.{Function}
use Rattle.net_core.specs.Work.{SymbolicSet, chain, disjunction, never, set_at, sum}
use Rattle.net_core.proofs.Possible.{one_family, some_family}
use Rattle.ste_model.specs.declared.task.Edge.{Edge}
use Rattle.ste_model.specs.declared.task.Graph.{Graph}
use Rattle.ste_model.specs.Edges.{asked_on}
use Rattle.ste_model.specs.GraphNeed.{AreWholeRounds, OneGraphNeed}
use Rattle.ste_model.specs.GraphTable.{AreRounds, VertexState, enough}
use Rattle.ste_model.specs.GraphWork.{SymbolicState, arrivals, edge_time_work, feasible_where, found_work, gated_set, given_by, graph_feasible, graph_strong, graph_strong_where, graph_weak, graph_work, guards_work, latch_in, ones_of, reached_in, results_work, round_work, sets_functions, start_state, state_at, strong_on, symbolic_asked_on, symbolic_binds, vertex_work, weak_on, where_feasible, zeros_of}
use Rattle.ste_model.proofs.Alike.{AreSame, Same, SameFamily, SameSet, SameSets, all_itself, append, chains, consequents_same, count_same, empty_same, for_each, itself, or_respects, same_and, same_not, sets_itself, strongs_same, time_same, times_same, weaks_same, wholes}
use Rattle.ste_model.proofs.NextRound.{some_rounds}
use Rattle.ste_model.proofs.Rounds.{long, same_rounds}

-- ---- states with the same values

record SameState (v : ℕ) (s t : SymbolicState) : Type 0 where
  reached : Same v s.reached t.reached
  latches : SameSets v s.latches t.latches

data SameStates (v : ℕ) : List SymbolicState → List SymbolicState → Type 0 where
  none : SameStates v [] []
  more : {s t : SymbolicState} {ss ts : List SymbolicState} → SameState v s t → SameStates v ss ts → SameStates v (s ∷ ss) (t ∷ ts)

same_gated : {v : ℕ} {w x : SymbolicSet} {f g : Function} → SameSet v w x → Same v f g → SameSet v (gated_set w f) (gated_set x g)
same_gated p q = record { zero = same_and p.zero q; one = same_and p.one q }

functions_same : {v : ℕ} {ws xs : List SymbolicSet} → SameSets v ws xs → AreSame v (sets_functions ws) (sets_functions xs)
functions_same SameSets.none = AreSame.none
functions_same (SameSets.more p ps) = AreSame.more p.zero (AreSame.more p.one (functions_same ps))

-- functions for each of some edges
parts_same : {v : ℕ} (F G : Edge → List Function) (edges : List Edge) → All (λ edge. AreSame v (F edge) (G edge)) edges → AreSame v (flat_map F edges) (flat_map G edges)
parts_same F G [] same = AreSame.none
parts_same {v} F G (edge ∷ edges) same =
    append (All-head (λ e. AreSame v (F e) (G e)) edge edges same) (parts_same F G edges (All-tail (λ e. AreSame v (F e) (G e)) edge edges same))

each_same : {v : ℕ} (F G : Edge → Function) (edges : List Edge) → All (λ edge. Same v (F edge) (G edge)) edges → AreSame v (map F edges) (map G edges)
each_same F G [] same = AreSame.none
each_same {v} F G (edge ∷ edges) same =
    AreSame.more (All-head (λ e. Same v (F e) (G e)) edge edges same) (each_same F G edges (All-tail (λ e. Same v (F e) (G e)) edge edges same))

-- ---- one edge

module _ (v : ℕ) (net : RawNet) (s t : SymbolicState) (one other : ℕ → SymbolicSet) (state : SameState v s t) (same : SameFamily v one other) where
  feasible_same : Same v (feasible_where net s one) (feasible_where net t other)
  feasible_same = same_and state.reached (same_not (empty_same net one other same))

  given_latches : (latches : List Latch) → SameSets v (map (λ latch. gated_set (one latch.input.0) (feasible_where net s one)) latches) (map (λ latch. gated_set (other latch.input.0) (feasible_where net t other)) latches)
  given_latches [] = SameSets.none
  given_latches (latch ∷ latches) = SameSets.more (same_gated (same latch.input.0) feasible_same) (given_latches latches)

  given_same : SameState v (given_by net s one) (given_by net t other)
  given_same = record { reached = feasible_same; latches = given_latches net.latches }

  edge_same : (edge : Edge) → AreSame v (edge_time_work net edge s one) (edge_time_work net edge t other)
  edge_same edge =
      append (time_same net (symbolic_asked_on edge) one other state.latches same)
      (AreSame.more (same_not (empty_same net one other same)) (AreSame.more feasible_same (functions_same (given_latches net.latches))))

  where_same : {fs gs : List Function} → AreSame v fs gs → AreSame v (where_feasible net s one fs) (where_feasible net t other gs)
  where_same AreSame.none = AreSame.none
  where_same (AreSame.more p ps) = AreSame.more (same_and p feasible_same) (where_same ps)

  strong_same : (edge : Edge) → AreSame v (strong_on net edge s one) (strong_on net edge t other)
  strong_same edge = where_same (strongs_same v one other same (symbolic_binds edge.con))

  weak_same : (edge : Edge) → AreSame v (weak_on net edge s one) (weak_on net edge t other)
  weak_same edge = where_same (weaks_same v one other same (symbolic_binds edge.con))

  found_same : (edge : Edge) → AreSame v (found_work net edge s one) (found_work net edge t other)
  found_same edge = append (consequents_same v one other same (symbolic_binds edge.con)) (append (weak_same edge) (strong_same edge))

-- ---- one vertex

state_itself : {v : ℕ} (s : SymbolicState) → SameState v s s
state_itself s = record { reached = itself; latches = sets_itself s.latches }

reached_same : {v : ℕ} {ss ts : List SymbolicState} → SameStates v ss ts → AreSame v (reached_in ss) (reached_in ts)
reached_same SameStates.none = AreSame.none
reached_same (SameStates.more p ps) = AreSame.more p.reached (reached_same ps)

at_latch : {v : ℕ} {ws xs : List SymbolicSet} (l : ℕ) → SameSets v ws xs → SameSet v (slice_index_or ws l (record { zero = never; one = never })) (slice_index_or xs l (record { zero = never; one = never }))
at_latch l SameSets.none = record { zero = itself; one = itself }
at_latch zero (SameSets.more p ps) = p
at_latch (suc l) (SameSets.more p ps) = at_latch l ps

latch_same : {v : ℕ} {ss ts : List SymbolicState} (l : ℕ) → SameStates v ss ts → SameSets v (latch_in l ss) (latch_in l ts)
latch_same l SameStates.none = SameSets.none
latch_same l (SameStates.more p ps) = SameSets.more (at_latch l p.latches) (latch_same l ps)

sums_same : {v : ℕ} {fs gs : List Function} → AreSame v fs gs → AreSame v (chain disjunction never fs) (chain disjunction never gs)
sums_same p = chains disjunction (or_respects _) itself p

sum_same : {v : ℕ} {fs gs : List Function} → AreSame v fs gs → Same v (sum fs) (sum gs)
sum_same p = wholes disjunction (or_respects _) itself p

vertex_same : {v : ℕ} {ss ts : List SymbolicState} (net : RawNet) → SameStates v ss ts → AreSame v (vertex_work net ss) (vertex_work net ts)
vertex_same {v} {ss} {ts} net p = append (sums_same (reached_same p)) (times_same (at ss) (at ts) (length net.latches) (λ l m.
    append (sums_same (for_each (λ w. w.zero) (λ w x q. q.zero) (latch_same l p))) (sums_same (for_each (λ w. w.one) (λ w x q. q.one) (latch_same l p)))))
  where
    at : List SymbolicState → ℕ → List Function
    at states l = chain disjunction never (zeros_of (latch_in l states)) ++ chain disjunction never (ones_of (latch_in l states))

-- ---- one round

module _ (v : ℕ) (net : RawNet) (graph : Graph) (table next : ℕ → SymbolicState) (one other : Edge → ℕ → SymbolicSet) (states : (vertex : ℕ) → SameState v (table vertex) (next vertex)) where
  abbrev Alike : Edge → Type 0
  Alike edge = SameFamily v (one edge) (other edge)

  abbrev given : (ℕ → SymbolicState) → (Edge → ℕ → SymbolicSet) → List Edge → List SymbolicState
  given from sets edges = map (λ (edge : Edge). given_by net (from edge.from) (sets edge)) edges

  abbrev into : ℕ → List Edge → List Edge
  into vertex edges = filter (λ (edge : Edge). edge.to == vertex) edges

  into_same : (vertex : ℕ) (edges : List Edge) → All Alike edges → SameStates v (given table one (into vertex edges)) (given next other (into vertex edges))
  into_same vertex [] same = SameStates.none
  into_same vertex (edge ∷ edges) same = by (edge.to == vertex) (into_same vertex edges (All-tail Alike edge edges same))
    where
      by : (b : Bool) → SameStates v (given table one (into vertex edges)) (given next other (into vertex edges)) → SameStates v (given table one (if b then edge ∷ into vertex edges else into vertex edges)) (given next other (if b then edge ∷ into vertex edges else into vertex edges))
      by true rest = SameStates.more (given_same v net (table edge.from) (next edge.from) (one edge) (other edge) (states edge.from) (All-head Alike edge edges same)) rest
      by false rest = rest

  module _ (same : All Alike graph.edges) where
    arrivals_same : (vertex : ℕ) → SameStates v (arrivals net graph table one vertex) (arrivals net graph next other vertex)
    arrivals_same vertex = by (vertex == 0)
      where
        by : (b : Bool) → SameStates v ((if b then start_state net graph.reset ∷ [] else []) ++ given table one (into vertex graph.edges)) ((if b then start_state net graph.reset ∷ [] else []) ++ given next other (into vertex graph.edges))
        by true = SameStates.more (state_itself (start_state net graph.reset)) (into_same vertex graph.edges same)
        by false = into_same vertex graph.edges same

    round_same : AreSame v (round_work net graph table one) (round_work net graph next other)
    round_same = append
        (parts_same (λ (e : Edge). edge_time_work net e (table e.from) (one e)) (λ (e : Edge). edge_time_work net e (next e.from) (other e)) graph.edges
        (λ k d l. let e = get_or graph.edges k d in edge_same v net (table e.from) (next e.from) (one e) (other e) (states e.from) (same k d l) e))
        (times_same (λ vertex. vertex_work net (arrivals net graph table one vertex)) (λ vertex. vertex_work net (arrivals net graph next other vertex)) (length graph.vertices) (λ vertex l. vertex_same net (arrivals_same vertex)))

    strongs : AreSame v (graph_strong net graph table one) (graph_strong net graph next other)
    strongs = parts_same (λ (e : Edge). strong_on net e (table e.from) (one e)) (λ (e : Edge). strong_on net e (next e.from) (other e)) graph.edges
        (λ k d l. let e = get_or graph.edges k d in strong_same v net (table e.from) (next e.from) (one e) (other e) (states e.from) (same k d l) e)

    weaks : AreSame v (graph_weak net graph table one) (graph_weak net graph next other)
    weaks = parts_same (λ (e : Edge). weak_on net e (table e.from) (one e)) (λ (e : Edge). weak_on net e (next e.from) (other e)) graph.edges
        (λ k d l. let e = get_or graph.edges k d in weak_same v net (table e.from) (next e.from) (one e) (other e) (states e.from) (same k d l) e)

    feasibles : AreSame v (graph_feasible net graph table one) (graph_feasible net graph next other)
    feasibles = each_same (λ (e : Edge). feasible_where net (table e.from) (one e)) (λ (e : Edge). feasible_where net (next e.from) (other e)) graph.edges
        (λ k d l. let e = get_or graph.edges k d in feasible_same v net (table e.from) (next e.from) (one e) (other e) (states e.from) (same k d l))

    strong_where_same : Same v (graph_strong_where net graph table one) (graph_strong_where net graph next other)
    strong_where_same = sum_same strongs

    results_same : AreSame v (results_work net graph table one) (results_work net graph next other)
    results_same = append
        (parts_same (λ (e : Edge). found_work net e (table e.from) (one e)) (λ (e : Edge). found_work net e (next e.from) (other e)) graph.edges
        (λ k d l. let e = get_or graph.edges k d in found_same v net (table e.from) (next e.from) (one e) (other e) (states e.from) (same k d l) e))
        (append (sums_same strongs) (append (sums_same weaks)
        (AreSame.more (same_not strong_where_same) (AreSame.more (same_and (sum_same weaks) (same_not strong_where_same))
        (append (sums_same feasibles) (AreSame.more (same_not (sum_same feasibles)) AreSame.none))))))

-- ---- all rounds

work_same : (v : ℕ) (net : RawNet) (graph : Graph) (tables nexts : ℕ → ℕ → SymbolicState) (ones others : ℕ → Edge → ℕ → SymbolicSet) → ((n vertex : ℕ) → SameState v (tables n vertex) (nexts n vertex)) → ((n : ℕ) → All (λ edge. SameFamily v (ones n edge) (others n edge)) graph.edges) → AreSame v (graph_work net graph tables ones) (graph_work net graph nexts others)
work_same v net graph tables nexts ones others states same = append (all_itself (guards_work graph))
    (append (times_same (λ n. round_work net graph (tables n) (ones n)) (λ n. round_work net graph (nexts n) (others n)) (suc (enough net graph)) (λ n l. round_same v net graph (tables n) (nexts n) (ones n) (others n) (states n) (same n)))
    (results_same v net graph (tables (enough net graph)) (nexts (enough net graph)) (ones (enough net graph)) (others (enough net graph)) (states (enough net graph)) (same (enough net graph))))

-- ---- there are tables and sets

abbrev first_of : List BitSet → BitSet
first_of [] = neither
first_of (set ∷ sets) = set

abbrev rest_of : List BitSet → List BitSet
rest_of [] = []
rest_of (set ∷ sets) = sets

-- lists of sets, one for each assignment and as long as the latches, as one list
columns : List Latch → (List Bool → List BitSet) → List SymbolicSet
columns [] rows = []
columns (latch ∷ latches) rows = record { zero = λ bits. (first_of (rows bits)).zero; one = λ bits. (first_of (rows bits)).one } ∷ columns latches (λ bits. rest_of (rows bits))

none_left : (sets : List BitSet) → length sets ≡ 0 → [] ≡ sets
none_left [] e = refl
none_left (set ∷ sets) e = absurd (omega arith)

first_and_rest : (sets : List BitSet) (n : ℕ) → length sets ≡ suc n → first_of sets ∷ rest_of sets ≡ sets
first_and_rest [] n e = absurd (omega arith)
first_and_rest (set ∷ sets) n e = refl

rest_long : (sets : List BitSet) (n : ℕ) → length sets ≡ suc n → length (rest_of sets) ≡ n
rest_long [] n e = absurd (omega arith)
rest_long (set ∷ sets) n e = omega arith

columns_at : (latches : List Latch) (rows : List Bool → List BitSet) (bits : List Bool) → length (rows bits) ≡ length latches → map (set_at bits) (columns latches rows) ≡ rows bits
unfolding columns
columns_at [] rows bits e = none_left (rows bits) e
columns_at (latch ∷ latches) rows bits e =
    ap (λ (sets : List BitSet). first_of (rows bits) ∷ sets) (columns_at latches (λ b. rest_of (rows b)) bits (rest_long (rows bits) (length latches) e)) ∙ first_and_rest (rows bits) (length latches) e

abbrev state_of : Bool → List BitSet → VertexState
state_of reached latches = record { reached = reached; latches = latches }

module _ (net : RawNet) (graph : Graph) (settled : IsSettled net) where
  rounds_of : (bits : List Bool) → (rounds : ℕ → ℕ → VertexState) × AreRounds net graph bits rounds
  rounds_of bits = some_rounds net graph bits settled

  long_of : (bits : List Bool) (n vertex : ℕ) → length ((rounds_of bits).0 n vertex).latches ≡ length net.latches
  long_of bits n vertex = long net graph bits settled (rounds_of bits).0 (rounds_of bits).1 n vertex

  tables_made : ℕ → ℕ → SymbolicState
  tables_made n vertex = record { reached = λ bits. ((rounds_of bits).0 n vertex).reached; latches = columns net.latches (λ bits. ((rounds_of bits).0 n vertex).latches) }

  made_at : (bits : List Bool) (n vertex : ℕ) → state_at bits (tables_made n vertex) ≡ (rounds_of bits).0 n vertex
  unfolding tables_made
  made_at bits n vertex = ap (state_of ((rounds_of bits).0 n vertex).reached) (columns_at net.latches (λ b. ((rounds_of b).0 n vertex).latches) bits (long_of bits n vertex))

  family_of : (bits : List Bool) (n : ℕ) (edge : Edge) → (sets : ℕ → BitSet) × ArePossible net ((rounds_of bits).0 n edge.from).latches (asked_on edge bits) sets
  family_of bits n edge = some_family net ((rounds_of bits).0 n edge.from).latches (asked_on edge bits) settled (long_of bits n edge.from)

  sets_made : ℕ → Edge → ℕ → SymbolicSet
  sets_made n edge id = record { zero = λ bits. ((family_of bits n edge).0 id).zero; one = λ bits. ((family_of bits n edge).0 id).one }

  whole_made : (vars : ℕ) → AreWholeRounds net vars graph tables_made sets_made
  unfolding sets_made
  whole_made vars = record {
    rounds = λ bits l. subst (AreRounds net graph bits) (λ i n vertex. sym (made_at bits n vertex) i) (rounds_of bits).1;
    possible = λ bits l n k d m.
        let edge = get_or graph.edges k d in
        subst (λ (state : VertexState). ArePossible net state.latches (asked_on edge bits) (λ id. set_at bits (sets_made n edge id))) (sym (made_at bits n edge.from)) (family_of bits n edge).1;
  }

-- ---- and only one number

-- what is the same at each assignment
sets_alike : (v : ℕ) (ws xs : List SymbolicSet) → ((bits : List Bool) → length bits ≡ v → map (set_at bits) ws ≡ map (set_at bits) xs) → SameSets v ws xs
sets_alike v [] [] h = SameSets.none
sets_alike v [] (x ∷ xs) h = absurd (cc (h (replicate v false) (length-replicate v false)))
sets_alike v (w ∷ ws) [] h = absurd (cc (h (replicate v false) (length-replicate v false)))
sets_alike v (w ∷ ws) (x ∷ xs) h = SameSets.more
    (record { zero = record { at = λ bits l. ap (λ (sets : List BitSet). (first_of sets).zero) (h bits l) }; one = record { at = λ bits l. ap (λ (sets : List BitSet). (first_of sets).one) (h bits l) } })
    (sets_alike v ws xs (λ bits l. ap rest_of (h bits l)))

module _ (net : RawNet) (vars : ℕ) (graph : Graph) (settled : IsSettled net) (tables nexts : ℕ → ℕ → SymbolicState) (ones others : ℕ → Edge → ℕ → SymbolicSet) (p : AreWholeRounds net vars graph tables ones) (q : AreWholeRounds net vars graph nexts others) where
  alike_at : (bits : List Bool) → length bits ≡ vars → (n vertex : ℕ) → state_at bits (tables n vertex) ≡ state_at bits (nexts n vertex)
  alike_at bits l n vertex = same_rounds net graph bits settled (λ m u. state_at bits (tables m u)) (λ m u. state_at bits (nexts m u)) (p.rounds bits l) (q.rounds bits l) n vertex

  states_same : (n vertex : ℕ) → SameState vars (tables n vertex) (nexts n vertex)
  states_same n vertex = record {
    reached = record { at = λ bits l. ap (λ (state : VertexState). state.reached) (alike_at bits l n vertex) };
    latches = sets_alike vars (tables n vertex).latches (nexts n vertex).latches (λ bits l. ap (λ (state : VertexState). state.latches) (alike_at bits l n vertex));
  }

  family_at : (bits : List Bool) → length bits ≡ vars → (n k : ℕ) (d : Edge) → k < length graph.edges → (id : ℕ) → set_at bits (ones n (get_or graph.edges k d) id) ≡ set_at bits (others n (get_or graph.edges k d) id)
  family_at bits l n k d m id =
      let edge = get_or graph.edges k d in
      one_family net (state_at bits (tables n edge.from)).latches (asked_on edge bits) settled (λ i. set_at bits (ones n edge i)) (λ i. set_at bits (others n edge i)) (p.possible bits l n k d m)
      (subst (λ (state : VertexState). ArePossible net state.latches (asked_on edge bits) (λ i. set_at bits (others n edge i))) (sym (alike_at bits l n edge.from)) (q.possible bits l n k d m)) id

  families_same : (n : ℕ) → All (λ edge. SameFamily vars (ones n edge) (others n edge)) graph.edges
  families_same n k d m id = record {
    zero = record { at = λ bits l. ap (λ (set : BitSet). set.zero) (family_at bits l n k d m id) };
    one = record { at = λ bits l. ap (λ (set : BitSet). set.one) (family_at bits l n k d m id) };
  }

  needs_same : node_count vars (graph_work net graph tables ones) ≡ node_count vars (graph_work net graph nexts others)
  needs_same = count_same (work_same vars net graph tables nexts ones others states_same families_same)

pub one_graph_need : OneGraphNeed
one_graph_need = record {
  some = λ net vars graph settled. (node_count vars (graph_work net graph (tables_made net graph settled) (sets_made net graph settled)), (tables_made net graph settled, sets_made net graph settled, whole_made net graph settled vars, refl));
  same = λ net vars graph one other settled (tables, ones, p, is) (nexts, others, q, also). is ∙ needs_same net vars graph settled tables nexts ones others p q ∙ sym also;
}
