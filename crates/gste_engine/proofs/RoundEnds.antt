-- Between two rounds: at the start, behind each round, and where no vertex has changed.
use Rattle.std.proofs.Common.{◌≡◌, ◌≢◌, ℕ, zero, suc, ◌<◌, Bool, true, false, List, [], ◌∷◌, ◌++◌, length, get_or, map, filter, replicate, refl, sym, ◌∙◌, ap, subst, arith, All, Contains}
use Rattle.std.specs.Prelude.{◌==◌, ◌||◌, IsTrue, if◌then◌else◌}
use Rattle.std.proofs.lemmas.List.{get_or-replicate, length-map, length-replicate}
use Rattle.std.proofs.lemmas.List.Elements.{All-nil, All-cons}
use Rattle.dd_nodes.specs.Stores.{Store, Keeps}
use Rattle.dd_nodes.proofs.Members.{Contains-none}
use Rattle.dd_nodes.proofs.Stores.{IsGood}
use Rattle.net_core.specs.declared.bit_set.BitSet.{BitSet}
use Rattle.net_core.specs.declared.raw.Latch.{Latch}
use Rattle.net_core.specs.declared.raw.RawNet.{RawNet}
use Rattle.net_core.specs.Flat.{IsInRange}
use Rattle.net_core.specs.Run.{IsSettled}
use Rattle.net_core.specs.Sets.{first_set}
use Rattle.net_core.specs.Work.{SymbolicSet, set_at}
use Rattle.sym_step.specs.Frame.{IsFrame}
use Rattle.sym_step.proofs.Framing.{frame_keeps}
use Rattle.ste_model.specs.declared.task.Edge.{Edge}
use Rattle.ste_model.specs.declared.task.Graph.{Graph}
use Rattle.ste_model.specs.GraphNeed.{AreWholeRounds}
use Rattle.ste_model.specs.GraphTable.{VertexState, enough}
use Rattle.ste_model.specs.GraphWork.{SymbolicState, start_state, state_at}
use Rattle.ste_model.specs.Work.{constant_set}
use Rattle.gste_engine.specs.declared.rounds.Progress.{Progress}
use Rattle.gste_engine.specs.declared.rounds.Sweep.{Sweep}
use Rattle.gste_engine.specs.declared.rounds.EdgeResults.{EdgeResults}
use Rattle.gste_engine.specs.declared.state.State.{State}
use Rattle.gste_engine.specs.Tables.{AreEdgesOver, AreStateRefs, HasStates, IsGraphOver, IsState}
use Rattle.gste_engine.specs.private.Rounds.{AreGivenFrom, AtStart, IsBetween, IsGivenFrom, IsSwept}
use Rattle.gste_engine.specs.private.Seen.{AreSeen, IsSeenFrom}
use Rattle.gste_engine.specs.private.Sums.{HaveFunctions, IsSumOf, first_table, first_state, never_state, summed_at, unions, unreached, with_state, with_states}
use Rattle.gste_engine.proofs.AllGiven.{ArePossibleOn, given_long, given_of, own_has, own_possible, own_sets, own_table}
use Rattle.gste_engine.proofs.Arrivals.{first_table_get, first_state_is, first_table_long, first_table_refs, never_is}
use Rattle.gste_engine.proofs.Comings.{IsLong, into, never_long}
use Rattle.gste_engine.proofs.KeptGivens.{From-keeps, givens_zip, never_given, starts_given}
use Rattle.gste_engine.proofs.KeptSeen.{Seen-keeps}
use Rattle.gste_engine.proofs.Lists.{unions_long}
use Rattle.gste_engine.proofs.NextTables.{early, possible_each, state_moves, states_next}
use Rattle.gste_engine.proofs.Sets.{no_set}
use Rattle.gste_engine.proofs.Starts.{starts_are}
use Rattle.gste_engine.proofs.SumsStay.{sum_stays}

-- ---- behind a round

module _ (net : RawNet) (graph : Graph) (table : List State) (long : length table ≡ length graph.vertices) where
  pub turn_between : (t u : Store) (edge_results : EdgeResults) (sweep : Sweep) → IsGood t → IsGood u → Keeps t u → AreEdgesOver net t.vars (length graph.vertices) graph.edges → AreGivenFrom t net graph.edges table edge_results.givens.items → AreSeen t net graph.edges table edge_results.seen.items → IsInRange net → IsFrame t net edge_results.frame → IsSwept u net graph edge_results.givens.items table [] sweep
      → IsBetween u net graph (record { table = sweep.table; givens = edge_results.givens; seen = edge_results.seen; changed = sweep.changed; flags = sweep.flags; frame = edge_results.frame })
  turn_between t u edge_results sweep gt gu keeps over q z range framed p = record {
    long = p.long;
    refs = p.refs;
    given = record {
      long = q.long;
      each = λ k d e f lt none before.
          let edge = get_or graph.edges k d in
          subst (λ (x : State). IsGivenFrom u net edge x (get_or edge_results.givens.items k f)) (sym (p.same edge.from e (over k d lt).start none))
          (From-keeps t u net edge (get_or table edge.from e) (get_or edge_results.givens.items k f) gt gu keeps (q.each k d e f lt));
    };
    seen = record {
      long = z.long;
      each = λ k d e f lt none before reached.
          let edge = get_or graph.edges k d in
          let same : get_or sweep.table.items edge.from e ≡ get_or table edge.from e = p.same edge.from e (over k d lt).start none in
          subst (λ (x : State). IsSeenFrom u net edge x (get_or edge_results.seen.items k f)) (sym same)
          (Seen-keeps t u net edge (get_or table edge.from e) (get_or edge_results.seen.items k f) gt gu keeps (z.each k d e f lt (λ none. reached (ap (λ (x : State). x.reached.0) same ∙ none))));
    };
    sums = λ v d l. p.sums v d l (λ h. Contains-none v h);
    inside = p.inside;
    flags = p.flags;
    clear = λ v h. Contains-none v (p.clear v h);
    frame = frame_keeps t u net edge_results.frame range gt gu keeps framed;
  }

  pub turn_has : (u : Store) (givens : List State) (sweep : Sweep) (states : ℕ → SymbolicState) (sets : Edge → ℕ → SymbolicSet) → IsSettled net → AreEdgesOver net u.vars (length graph.vertices) graph.edges → HasStates states (length graph.vertices) u table → ArePossibleOn u.vars net states sets graph.edges → AreGivenFrom u net graph.edges table givens → IsSwept u net graph givens table [] sweep
      → HasStates (summed_at net graph.reset (given_of net states sets) graph.edges) (length graph.vertices) u sweep.table.items
  turn_has u givens sweep states sets settled over has possible q p = record {
    long = p.long;
    each = λ v d lt.
        let zip = givens_zip u net graph.edges table givens states sets settled (subst (λ n. AreEdgesOver net u.vars n graph.edges) (sym long) over) (record { long = refl; each = has.each }) possible q in
        sum_stays u net graph givens v (get_or sweep.table.items v d) (given_of net states sets) (p.sums v d (let n = p.long in omega (arith, n, lt)) (λ h. Contains-none v h)) zip;
  }

  -- what each edge gives has functions by edge
  pub given_functions : (t : Store) (givens : List State) → IsSettled net → IsGood t → AreEdgesOver net t.vars (length graph.vertices) graph.edges → All (AreStateRefs t net) table → AreGivenFrom t net graph.edges table givens → HaveFunctions t net graph.edges givens
  given_functions t givens settled gt over refs q =
      let states = own_table t net table gt refs in
      let sets = own_sets t net table gt refs settled in
      record {
        given = given_of net states sets;
        wide = given_long net states sets;
        are = givens_zip t net graph.edges table givens states sets settled (subst (λ n. AreEdgesOver net t.vars n graph.edges) (sym long) over) (own_has t net table gt refs) (own_possible t net table gt refs settled graph.edges) q;
      }

-- ---- where no vertex has changed

empty_list : (xs : List ℕ) → length xs ≡ 0 → xs ≡ []
empty_list [] e = refl
empty_list (x ∷ xs) e = absurd (omega (arith, e))

pub settled_here : (net : RawNet) (vars : ℕ) (graph : Graph) (tables : ℕ → ℕ → SymbolicState) (sets : ℕ → Edge → ℕ → SymbolicSet) (t : Store) (m : ℕ) (r : Progress) → IsSettled net → AreWholeRounds net vars graph tables sets → t.vars ≡ vars → IsGraphOver net t.vars graph → IsBetween t net graph r → length r.changed.items ≡ 0
    → HasStates (tables m) (length graph.vertices) t r.table.items → HasStates (tables (enough net graph)) (length graph.vertices) t r.table.items
settled_here net vars graph tables sets t m r settled whole e over p none has =
    let table = r.table.items in
    let nobody : (v : ℕ) → ¬ Contains r.changed.items v = λ v h. Contains-none v (subst (λ (xs : List ℕ). Contains xs v) (empty_list r.changed.items none) h) in
    let known : AreGivenFrom t net graph.edges table r.givens.items = record { long = p.given.long; each = λ k d x f lt. p.given.each k d x f lt (nobody (get_or graph.edges k d).from) (λ same. lt) } in
    let possible : ArePossibleOn t.vars net (tables m) (sets m) graph.edges = subst (λ v. ArePossibleOn v net (tables m) (sets m) graph.edges) (sym e) (possible_each net vars graph tables sets whole m) in
    let zip = givens_zip t net graph.edges table r.givens.items (tables m) (sets m) settled (subst (λ n. AreEdgesOver net t.vars n graph.edges) (sym p.long) over.edges) (record { long = refl; each = has.each }) possible known in
    let next : HasStates (summed_at net graph.reset (given_of net (tables m) (sets m)) graph.edges) (length graph.vertices) t table = record {
      long = p.long;
      each = λ v d lt. sum_stays t net graph r.givens.items v (get_or table v d) (given_of net (tables m) (sets m)) (p.sums v d (let n = p.long in omega (arith, n, lt))) zip;
    } in
    early net vars graph tables sets whole settled over.sound t m table e has (states_next net vars graph tables sets whole settled t m table e next)

-- ---- the start

abbrev state_of : Bool → List BitSet → VertexState
state_of reached latches = record { reached = reached; latches = latches }

or_none : (b : Bool) → (b || false) ≡ b
or_none true = refl
or_none false = refl

set_none : (a b : Bool) → ◌≡◌ {A = BitSet} (record { zero = a || false; one = b || false }) (record { zero = a; one = b })
set_none true true = refl
set_none true false = refl
set_none false true = refl
set_none false false = refl

module _ (net : RawNet) (bits : List Bool) where
  none_joined : (ws : List SymbolicSet) (latches : List Latch) → length ws ≡ length latches → map (set_at bits) (unions ws (map (λ latch. no_set) latches)) ≡ map (set_at bits) ws
  none_joined [] [] e = refl
  none_joined [] (l ∷ ls) e = absurd (omega (arith, e))
  none_joined (w ∷ ws) [] e = absurd (omega (arith, e))
  none_joined (w ∷ ws) (l ∷ ls) e =
      ap (λ (x : BitSet). x ∷ map (set_at bits) (unions ws (map (λ latch. no_set) ls))) (set_none (w.zero bits) (w.one bits))
      ∙ ap (λ (xs : List BitSet). set_at bits w ∷ xs) (none_joined ws ls (omega (arith, e)))

  with_none : (x : SymbolicState) → IsLong net x → state_at bits (with_state x (never_state net)) ≡ state_at bits x
  with_none x long =
      ap (λ (b : Bool). state_of b (map (set_at bits) (unions x.latches (map (λ latch. no_set) net.latches)))) (or_none (x.reached bits))
      ∙ ap (λ (sets : List BitSet). state_of (x.reached bits) sets) (none_joined x.latches net.latches long)

  none_into : (vertex : ℕ) (x : SymbolicState) (edges : List Edge) → IsLong net x → state_at bits (with_states x (into (λ edge. never_state net) vertex edges)) ≡ state_at bits x
  none_into vertex x [] long = refl
  none_into vertex x (edge ∷ edges) long = by (edge.to == vertex) (none_into vertex (with_state x (never_state net)) edges (unions_long x.latches (never_state net).latches (long ∙ sym (never_long net)) ∙ never_long net) ∙ with_none x long) (none_into vertex x edges long)
    where
      by : (b : Bool) → state_at bits (with_states (with_state x (never_state net)) (into (λ edge. never_state net) vertex edges)) ≡ state_at bits x → state_at bits (with_states x (into (λ edge. never_state net) vertex edges)) ≡ state_at bits x
          → state_at bits (with_states x (map (λ (e : Edge). never_state net) (if b then edge ∷ filter (λ (e : Edge). e.to == vertex) edges else filter (λ (e : Edge). e.to == vertex) edges))) ≡ state_at bits x
      by true this none = this
      by false this none = none

  start_long : (reset : Bool) → IsLong net (with_state (never_state net) (start_state net reset))
  start_long reset = unions_long (never_state net).latches (start_state net reset).latches (never_long net ∙ sym (length-map net.latches (λ latch. constant_set (first_set reset latch)))) ∙ length-map net.latches (λ latch. constant_set (first_set reset latch))

  none_summed : (reset : Bool) (vertex : ℕ) (edges : List Edge) → state_at bits (summed_at net reset (λ edge. never_state net) [] vertex) ≡ state_at bits (summed_at net reset (λ edge. never_state net) edges vertex)
  none_summed reset vertex edges = by (vertex == 0)
    where
      by : (b : Bool) → state_at bits (with_states (never_state net) ((if b then start_state net reset ∷ [] else []) ++ []))
          ≡ state_at bits (with_states (never_state net) ((if b then start_state net reset ∷ [] else []) ++ into (λ edge. never_state net) vertex edges))
      by true = sym (none_into vertex (with_state (never_state net) (start_state net reset)) edges (start_long reset))
      by false = sym (none_into vertex (never_state net) edges (never_long net))

module _ (t : Store) (net : RawNet) (graph : Graph) (r : Progress) (settled : IsSettled net) (gt : IsGood t) (over : IsGraphOver net t.vars graph) (start : AtStart net graph r) where
  abbrev firsts : List State
  firsts = first_table net graph.reset (length graph.vertices)

  abbrev nothing : List State
  nothing = replicate (length graph.edges) (unreached net)

  starts_sum : (v : ℕ) (d : State) → v < length graph.vertices → IsSumOf t net graph nothing v (get_or firsts v d)
  starts_sum v d lt = record {
    given = λ edge. never_state net;
    are = λ k e f l to. subst (λ (x : State). IsState t (never_state net) x) (sym (get_or-replicate (length graph.edges) k (unreached net) f l)) (never_is t net gt);
    sum = subst (λ (x : State). IsState t (summed_at net graph.reset (λ edge. never_state net) graph.edges v) x) (sym (first_table_get net graph.reset (length graph.vertices) v d lt))
        (state_moves t (summed_at net graph.reset (λ edge. never_state net) [] v) (summed_at net graph.reset (λ edge. never_state net) graph.edges v) (first_state net graph.reset v) (λ bits l. none_summed net bits graph.reset v graph.edges) (first_state_is net graph.reset (λ edge. never_state net) t v gt));
  }

  unstarted : (v : ℕ) (d : State) → v < length graph.vertices → v ≢ 0 → get_or firsts v d ≡ unreached net
  unstarted zero d lt differ = absurd (differ refl)
  unstarted (suc v) d lt differ = first_table_get net graph.reset (length graph.vertices) (suc v) d lt

  first_given : (k : ℕ) (d : Edge) (e f : State) → k < length graph.edges → ¬ Contains (0 ∷ []) (get_or graph.edges k d).from → IsGivenFrom t net (get_or graph.edges k d) (get_or firsts (get_or graph.edges k d).from e) (get_or nothing k f)
  first_given k d e f lt none =
      let edge = get_or graph.edges k d in
      let source : get_or firsts edge.from e ≡ unreached net = unstarted edge.from e (over.edges k d lt).start (λ same. none (0, omega arith, sym same)) in
      let given : get_or nothing k f ≡ unreached net = get_or-replicate (length graph.edges) k (unreached net) f lt in
      subst (λ (x : State). IsGivenFrom t net edge x (get_or nothing k f)) (sym source) (subst (λ (x : State). IsGivenFrom t net edge (unreached net) x) (sym given) (never_given t net edge settled gt))

  no_flag : (v : ℕ) → ¬ IsTrue (get_or (replicate (length graph.vertices) false) v false)
  no_flag v h = let e : get_or (replicate (length graph.vertices) false) v false ≡ false = get_or-same (length graph.vertices) v in let f = sym h ∙ e in absurd (cc f)
    where
      get_or-same : (n v : ℕ) → get_or (replicate n false) v false ≡ false
      get_or-same zero v = refl
      get_or-same (suc n) zero = refl
      get_or-same (suc n) (suc v) = get_or-same n v

  pub starts_between : IsBetween t net graph r
  starts_between = record {
    long = ap (λ (xs : List State). length xs) start.table ∙ first_table_long net graph.reset (length graph.vertices);
    refs = subst (λ (xs : List State). All (AreStateRefs t net) xs) (sym {A = List State} start.table) (first_table_refs net graph.reset (length graph.vertices) t gt);
    given = record {
      long = ap (λ (xs : List State). length xs) start.givens ∙ length-replicate (length graph.edges) (unreached net);
      each = λ k d e f lt none before.
          let edge = get_or graph.edges k d in
          let here : ¬ Contains (0 ∷ []) edge.from = λ h. none (subst (λ (xs : List ℕ). Contains xs edge.from) (sym start.changed) h) in
          subst (λ (xs : List State). IsGivenFrom t net edge (get_or xs edge.from e) (get_or r.givens.items k f)) (sym {A = List State} start.table)
          (subst (λ (xs : List State). IsGivenFrom t net edge (get_or firsts edge.from e) (get_or xs k f)) (sym {A = List State} start.givens) (first_given k d e f lt here));
    };
    seen = record {
      long = start.seen;
      each = λ k d e f lt none before reached.
          let edge = get_or graph.edges k d in
          let here : ¬ Contains (0 ∷ []) edge.from = λ h. none (subst (λ (xs : List ℕ). Contains xs edge.from) (sym start.changed) h) in
          let source : get_or r.table.items edge.from e ≡ unreached net = ap (λ (xs : List State). get_or xs edge.from e) start.table ∙ unstarted edge.from e (over.edges k d lt).start (λ same. here (0, omega arith, sym same)) in
          absurd (reached (ap (λ (x : State). x.reached.0) source));
    };
    sums = λ v d lt.
        subst (λ (xs : List State). IsSumOf t net graph xs v (get_or r.table.items v d)) (sym {A = List State} start.givens)
        (subst (λ (xs : List State). IsSumOf t net graph nothing v (get_or xs v d)) (sym {A = List State} start.table) (starts_sum v d lt));
    inside = subst (λ (xs : List ℕ). All (λ v. v < length graph.vertices) xs) (sym start.changed) (All-cons (λ v. v < length graph.vertices) 0 [] over.sound.some (All-nil (λ v. v < length graph.vertices)));
    flags = ap (λ (xs : List Bool). length xs) start.flags ∙ length-replicate (length graph.vertices) false;
    clear = λ v h. no_flag v (subst (λ (xs : List Bool). IsTrue (get_or xs v false)) start.flags h);
    frame = start.frame t gt;
  }

  -- it is the table of round 1
  pub starts_first : (tables : ℕ → ℕ → SymbolicState) (sets : ℕ → Edge → ℕ → SymbolicSet) → AreWholeRounds net t.vars graph tables sets → HasStates (tables 1) (length graph.vertices) t r.table.items
  starts_first tables sets whole =
      let none : List State = replicate (length graph.vertices) (unreached net) in
      let before : HasStates (tables 0) (length graph.vertices) t none = starts_are net graph t tables sets whole none gt refl in
      let given : AreGivenFrom t net graph.edges none nothing = starts_given t net graph none nothing settled gt (λ k d lt. (over.edges k d lt).start) refl refl in
      let n : length none ≡ length graph.vertices = length-replicate (length graph.vertices) (unreached net) in
      let zip = givens_zip t net graph.edges none nothing (tables 0) (sets 0) settled (subst (λ m. AreEdgesOver net t.vars m graph.edges) (sym n) over.edges) (record { long = refl; each = before.each }) (possible_each net t.vars graph tables sets whole 0) given in
      let long = first_table_long net graph.reset (length graph.vertices) in
      let first : HasStates (summed_at net graph.reset (given_of net (tables 0) (sets 0)) graph.edges) (length graph.vertices) t firsts = record {
        long = long;
        each = λ v d lt. sum_stays t net graph nothing v (get_or firsts v d) (given_of net (tables 0) (sets 0)) (starts_sum v d (omega (arith, long, lt))) zip;
      } in
      states_next net t.vars graph tables sets whole settled t 0 r.table.items refl (subst (HasStates (summed_at net graph.reset (given_of net (tables 0) (sets 0)) graph.edges) (length graph.vertices) t) (sym {A = List State} start.table) first)
